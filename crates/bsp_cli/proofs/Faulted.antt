-- What a command did that did not end.
use Rattle.std.proofs.Common.{◌≡◌, ℕ, inl, inr, List, Option, Err, arith}
use Rattle.job_view.specs.Look.{LookValue}
use Rattle.bsp_cli.specs.Did.{Did}
use Rattle.bsp_cli.specs.Ends.{Does}
use Rattle.bsp_cli.specs.Texts.{fault_text, fault_status}
use Rattle.bsp_words.specs.declared.asked.Asked.{Asked}
use Rattle.bsp_cli.specs.declared.fault.RunFault.{RunFault}
use Rattle.bsp_cli.specs.declared.fault.RunFault.TheVariants.{Text, Read, Write, Memory, NotStarted, Internal}

-- by its fault, the line that was said, and its status
pub faulted : (a : Asked) (look : LookValue) (input old new : Option (List ℕ)) (reported : List ℕ → Type 0) (fault : RunFault) (status : ℕ)
    → Does a look input old new (Err fault)
    → reported (fault_text fault) → status ≡ fault_status fault → Did a look input old new reported status
faulted a look input old new reported (Text r) status does line e =
    let known : status ≡ 4 = e in
    record {
      finished = λ h. absurd (omega arith);
      refused = λ h. (does.1, r, line, does.0);
      memory = λ h. absurd (omega arith);
      not_started = λ h. absurd (omega arith);
      failed = λ h. absurd (omega arith);
      internal = λ h. absurd (omega arith);
    }
faulted a look input old new reported Read status does line e =
    let known : status ≡ 8 = e in
    record {
      finished = λ h. absurd (omega arith);
      refused = λ h. absurd (omega arith);
      memory = λ h. absurd (omega arith);
      not_started = λ h. absurd (omega arith);
      failed = λ h. inl does;
      internal = λ h. absurd (omega arith);
    }
faulted a look input old new reported Write status does line e =
    let known : status ≡ 8 = e in
    record {
      finished = λ h. absurd (omega arith);
      refused = λ h. absurd (omega arith);
      memory = λ h. absurd (omega arith);
      not_started = λ h. absurd (omega arith);
      failed = λ h. inr does;
      internal = λ h. absurd (omega arith);
    }
faulted a look input old new reported Memory status does line e =
    let known : status ≡ 6 = e in
    record {
      finished = λ h. absurd (omega arith);
      refused = λ h. absurd (omega arith);
      memory = λ h. does;
      not_started = λ h. absurd (omega arith);
      failed = λ h. absurd (omega arith);
      internal = λ h. absurd (omega arith);
    }
faulted a look input old new reported (NotStarted k) status does line e =
    let known : status ≡ 7 = e in
    record {
      finished = λ h. absurd (omega arith);
      refused = λ h. absurd (omega arith);
      memory = λ h. absurd (omega arith);
      not_started = λ h. (does.0, k, does.1, line);
      failed = λ h. absurd (omega arith);
      internal = λ h. absurd (omega arith);
    }
faulted a look input old new reported Internal status does line e =
    let known : status ≡ 9 = e in
    record {
      finished = λ h. absurd (omega arith);
      refused = λ h. absurd (omega arith);
      memory = λ h. absurd (omega arith);
      not_started = λ h. absurd (omega arith);
      failed = λ h. absurd (omega arith);
      internal = λ h. does;
    }
