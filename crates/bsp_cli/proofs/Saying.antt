-- What standard error got, by the status.
use Rattle.std.proofs.Common.{◌≡◌, ◌≢◌, ◌≤◌, ℕ, List, [], Option, codes, arith}
use Rattle.std.specs.Io.KnownBytes.{Appends}
use Rattle.bsp_cli.specs.Texts.{fault_text, fault_status, Says, Tells, WritesSome}
use Rattle.bsp_cli.specs.declared.fault.RunFault.{RunFault}
use Rattle.bsp_cli.specs.declared.fault.RunFault.TheVariants.{Text, Read, Write, Memory, NotStarted, Internal}

-- the refusal of a command line
pub refused_says : (status : ℕ) (old new : Option (List ℕ)) (f g : ℕ) → status ≡ 5 → Tells old new f g (codes "command line refused\n")
    → Says status old new f g
refused_says status old new f g e reported = record {
  command_line = λ h. reported;
  memory = λ h. absurd (omega (arith, e));
  failure = λ h. absurd (omega (arith, e));
  internal = λ h. absurd (omega (arith, e));
}

-- a status without a line of its own
pub nothing_says : (status : ℕ) (old new : Option (List ℕ)) (f g : ℕ) → status ≤ 3 → Says status old new f g
nothing_says status old new f g small = record {
  command_line = λ h. absurd (omega arith);
  memory = λ h. absurd (omega arith);
  failure = λ h. absurd (omega arith);
  internal = λ h. absurd (omega arith);
}

-- a fault, which was reported
pub fault_says : (fault : RunFault) (status : ℕ) (old new : Option (List ℕ)) (f g : ℕ) → status ≡ fault_status fault
    → Tells old new f g (fault_text fault) → Says status old new f g
fault_says (Text r) status old new f g e reported =
    let known : status ≡ 4 = e in
    record {
      command_line = λ h. absurd (omega arith);
      memory = λ h. absurd (omega arith);
      failure = λ h. absurd (omega arith);
      internal = λ h. absurd (omega arith);
    }
fault_says Read status old new f g e reported =
    let known : status ≡ 8 = e in
    record {
      command_line = λ h. absurd (omega arith);
      memory = λ h. absurd (omega arith);
      failure = λ h. reported;
      internal = λ h. absurd (omega arith);
    }
fault_says Write status old new f g e reported =
    let known : status ≡ 8 = e in
    record {
      command_line = λ h. absurd (omega arith);
      memory = λ h. absurd (omega arith);
      failure = λ h. reported;
      internal = λ h. absurd (omega arith);
    }
fault_says Memory status old new f g e reported =
    let known : status ≡ 6 = e in
    record {
      command_line = λ h. absurd (omega arith);
      memory = λ h. reported;
      failure = λ h. absurd (omega arith);
      internal = λ h. absurd (omega arith);
    }
fault_says (NotStarted k) status old new f g e reported =
    let known : status ≡ 7 = e in
    record {
      command_line = λ h. absurd (omega arith);
      memory = λ h. absurd (omega arith);
      failure = λ h. absurd (omega arith);
      internal = λ h. absurd (omega arith);
    }
fault_says Internal status old new f g e reported =
    let known : status ≡ 9 = e in
    record {
      command_line = λ h. absurd (omega arith);
      memory = λ h. absurd (omega arith);
      failure = λ h. absurd (omega arith);
      internal = λ h. reported;
    }

-- a text was written that isn't empty
pub some_written : (old new : Option (List ℕ)) (text : List ℕ) → text ≢ [] → Appends old new text → WritesSome old new
some_written old new text some written = (text, some, written)
