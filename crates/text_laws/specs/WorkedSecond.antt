-- Texts of format 2 worked out: what is read and written is written down, and not said by any rule (own).
use Rattle.std.specs.Prelude.{◌≡◌, ℕ, pos, List, [], ◌∷◌, Ok, Err, codes}
use Rattle.text_lines.specs.declared.refusal.Code.TheVariants.{BadHeader, UnknownLine, BadLine, Twice, UnknownName}
use Rattle.superstep_memory.specs.declared.arrays.PutKind.TheVariants as kind
use Rattle.task_code.specs.declared.code.Index.TheVariants.{Number, Local, Arg}
use Rattle.task_code.specs.declared.code.Operand.TheVariants.{Plain}
use Rattle.task_code.specs.declared.code.Operator.TheVariants.{Add}
use Rattle.task_code.specs.declared.code.Expr.TheVariants.{One, Two}
use Rattle.task_code.specs.declared.code.Action.TheVariants.{Let, Put}
use Rattle.task_code.specs.Tree.{Done, Do}
use Rattle.job_reader.specs.Trees.{JobTree}
use Rattle.job_reader.specs.Grammar.{canonical_text}
use Rattle.job_reader.specs.Reading.{job_in}
use Rattle.job_reader.specs.Upgrade.{upgraded_tree}
use Rattle.text_laws.specs.Worked.{cell, number}

-- an add and a put, and locals that are listed otherwise than they are mentioned, one of them never
abbrev pub second_text : List ℕ
second_text = codes "bsp 2\n\narray s 1 100\nbody b z  y x\nlet x = y + 1\nadd s[0] = x\nput s[arg] = z\nend\nstart b 1\n"

abbrev pub second_written : List ℕ
second_written = codes "bsp 2\narray s 1 100\nbody b z y x\nlet x = y + 1\nadd s[0] = x\nput s[arg] = z\nend\nstart b 1\n"

abbrev pub second_job : JobTree
second_job = record {
  format = 2;
  arrays = (codes "s", pos 100 ∷ []) ∷ [];
  bodies = record {
    name = codes "b";
    locals = codes "z" ∷ codes "y" ∷ codes "x" ∷ [];
    block = Do (Let 2 (Two (Plain (Local 1)) Add (number 1)))
        (Do (Put kind.Add (cell (Number (pos 0))) (One (Plain (Local 2)))) (Do (Put kind.Set (cell Arg) (One (Plain (Local 0)))) Done));
  } ∷ [];
  starts = record { body = 0; arg = pos 1 } ∷ [];
}

-- a job of format 1
abbrev pub first_job : JobTree
first_job = record {
  format = 1;
  arrays = (codes "a", pos 0 ∷ []) ∷ [];
  bodies = record {
    name = codes "b";
    locals = codes "x" ∷ codes "y" ∷ codes "i" ∷ [];
    block = Do (Let 0 (Two (Plain (Local 1)) Add (number 1))) (Do (Put kind.Set (cell (Local 2)) (One (Plain (Local 0)))) Done);
  } ∷ [];
  starts = record { body = 0; arg = pos 0 } ∷ [];
}

-- a body that has a local with the body's name
abbrev pub named_job : JobTree
named_job = record {
  format = 2;
  arrays = [];
  bodies = record { name = codes "x"; locals = codes "x" ∷ []; block = Done } ∷ [];
  starts = [];
}

pub record SecondFormatIsWorkedOut : Type 0 where
  pub read : job_in second_text ≡ Ok second_job
  pub written : canonical_text second_job ≡ second_written
  pub first : job_in (codes "bsp 1\narray a 1\nbody b\nlet x = y + 1\nput a[i] = x\nend\nstart b 0\n") ≡ Ok first_job
  pub upgraded : canonical_text (upgraded_tree first_job)
      ≡ codes "bsp 2\narray a 1 0\nbody b x y i\nlet x = y + 1\nput a[i] = x\nend\nstart b 0\n"
  pub own_name : job_in (codes "bsp 2\nbody x x\nend\n") ≡ Ok named_job
  -- a local that isn't listed, one that is listed twice, and what format 1 doesn't have
  pub not_listed : job_in (codes "bsp 2\nbody b x\nlet y = 1\nend\n") ≡ Err (record { line = 3; code = UnknownName })
  pub listed_twice : job_in (codes "bsp 2\nbody b x x\nend\n") ≡ Err (record { line = 2; code = Twice })
  pub first_has_no_add : job_in (codes "bsp 1\narray a 1\nbody b\nadd a[0] = 1\nend\n") ≡ Err (record { line = 4; code = UnknownLine })
  pub first_lists_none : job_in (codes "bsp 1\nbody b x\nend\n") ≡ Err (record { line = 2; code = BadLine })
  pub no_other_format : job_in (codes "bsp 3\n") ≡ Err (record { line = 1; code = BadHeader })
