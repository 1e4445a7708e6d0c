use Rattle.std.proofs.Common.{◌∙◌, ap, codes, ℕ, List, Option}
use Rattle.std.specs.Option.{unwrap_or}
use Rattle.clap.specs.Words.{found_of}
use Rattle.clap.proofs.WalkLemmas.{first_value-rows}
use Rattle.bsp_words.proofs.asked.tree_of.Goals as goal

pub returns-in-Some : goal.returns-in-Some
returns-in-Some c =
    let reported = rw c.in-Some.is at c.get_str.ensures in
    ap (λ (o : Option (List ℕ)). unwrap_or o (codes "flat")) (reported ∙ first_value-rows (found_of c.args.matches.now) (codes "tree"))

pub returns-in-None : goal.returns-in-None
returns-in-None c =
    let reported = rw c.in-None.is at c.get_str.ensures in
    ap (λ (o : Option (List ℕ)). unwrap_or o (codes "flat")) (reported ∙ first_value-rows (found_of c.args.matches.now) (codes "tree"))
