use Rattle.std.proofs.Common.{◌≡◌, ◌∙◌, [], ap, false, map, subst, sym, true}
use Rattle.clap.specs.Words.{App, HasKind, fault_of, is_simple, is_simple_and_free, subcommand_of}
use Rattle.bsp_words.specs.CommandLine.{asked_by, clashes_by, file_by, look_by, program, refused_by, tree_by}
use Rattle.bsp_words.proofs.Clashes.{clash_refuses, fault_refuses, taken}
use Rattle.bsp_words.proofs.Parsed.{free-program, simple-program}
use Rattle.bsp_words.proofs.words.parse.Goals as goal

pub returns-else-clash-clause-taken : goal.returns-else-clash-clause-taken
returns-else-clash-clause-taken g c =
    let words = map g.S.AsStr.text c.args.words.now in
    let is_program = c.in_ok-command.ensures.app in
    let matches = c.in-Ok.ensures.matches (ap is_simple is_program ∙ simple-program) in
    let fault : fault_of program words ≡ [] =
    ap (λ (a : App). fault_of a words) (sym is_program) ∙ c.in-Ok.ensures.kinds (ap is_simple_and_free is_program ∙ free-program) in
    let rows = matches.1 ∙ ap (λ (a : App). subcommand_of a words) is_program in
    let clash : clashes_by (subcommand_of program words) ≡ false =
    sym (ap clashes_by rows) ∙ sym c.in_ok-clash-in-Ok.ensures ∙ c.if-clash.false in
    taken words fault clash

pub returns-else-clash-clause-asked : goal.returns-else-clash-clause-asked
returns-else-clash-clause-asked g c =
    let is_program = c.in_ok-command.ensures.app in
    let matches = c.in-Ok.ensures.matches (ap is_simple is_program ∙ simple-program) in
    c.asked_for.ensures.asked ∙ ap asked_by (matches.1 ∙ ap (λ (a : App). subcommand_of a (map g.S.AsStr.text c.args.words.now)) is_program)

pub returns-else-clash-clause-tree : goal.returns-else-clash-clause-tree
returns-else-clash-clause-tree g c =
    let is_program = c.in_ok-command.ensures.app in
    let matches = c.in-Ok.ensures.matches (ap is_simple is_program ∙ simple-program) in
    c.asked_for.ensures.tree ∙ ap tree_by (matches.1 ∙ ap (λ (a : App). subcommand_of a (map g.S.AsStr.text c.args.words.now)) is_program)

pub returns-else-clash-clause-file : goal.returns-else-clash-clause-file
returns-else-clash-clause-file g c =
    let is_program = c.in_ok-command.ensures.app in
    let matches = c.in-Ok.ensures.matches (ap is_simple is_program ∙ simple-program) in
    c.asked_for.ensures.file ∙ ap file_by (matches.1 ∙ ap (λ (a : App). subcommand_of a (map g.S.AsStr.text c.args.words.now)) is_program)

pub returns-else-clash-clause-look : goal.returns-else-clash-clause-look
returns-else-clash-clause-look g c =
    let is_program = c.in_ok-command.ensures.app in
    let matches = c.in-Ok.ensures.matches (ap is_simple is_program ∙ simple-program) in
    c.asked_for.ensures.look ∙ ap look_by (matches.1 ∙ ap (λ (a : App). subcommand_of a (map g.S.AsStr.text c.args.words.now)) is_program)

pub returns-then-clash-clause-err : goal.returns-then-clash-clause-err
returns-then-clash-clause-err g c =
    let words = map g.S.AsStr.text c.args.words.now in
    let is_program = c.in_ok-command.ensures.app in
    let matches = c.in-Ok.ensures.matches (ap is_simple is_program ∙ simple-program) in
    let fault : fault_of program words ≡ [] =
    ap (λ (a : App). fault_of a words) (sym is_program) ∙ c.in-Ok.ensures.kinds (ap is_simple_and_free is_program ∙ free-program) in
    let rows = matches.1 ∙ ap (λ (a : App). subcommand_of a words) is_program in
    let clash : clashes_by (subcommand_of program words) ≡ true =
    sym (ap clashes_by rows) ∙ sym c.in_ok-clash-in-Ok.ensures ∙ c.if-clash.true in
    clash_refuses words c.refuse_clash.result fault clash c.refuse_clash.ensures

pub returns-in-Err-clause-err : goal.returns-in-Err-clause-err
returns-in-Err-clause-err g c =
    let is_program = c.in_ok-command.ensures.app in
    fault_refuses (map g.S.AsStr.text c.args.words.now) c.in-Err.error
    (subst (λ (a : App). HasKind (fault_of a (map g.S.AsStr.text c.args.words.now)) c.in-Err.error) is_program
    (c.in-Err.ensures.kinds (ap is_simple_and_free is_program ∙ free-program)))
