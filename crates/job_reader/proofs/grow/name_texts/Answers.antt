use Rattle.job_reader.proofs.AsciiNames.{each-free}
use Rattle.job_reader.proofs.grow.name_texts.Goals as goal

pub name_text-requires : goal.name_text-requires
name_text-requires c = each-free c.args.names.now c.loop-name.name-index _ c.requires c.loop-name-test.true
