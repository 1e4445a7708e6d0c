-- A handle may go to another thread: its state may.
use mir.Raw.{raw as bare}
use base.Shift.{Keyless}
use denote.Memory.{lone}
use denote.RawPtr.{Ptr}
use denote.Builtin.{RawPtr}
use denote.Struct.Struct.{exits_of}
use denote.Struct.Owning.{shape, fields, to}
use denote.Param.Send.{IsSend, owning_send, struct_send, sendable}
use Rattle.std.specs.Prelude.{Option, Some, None}
use Rattle.std_alloc.proofs.SendSync.{lies, quiet}
use Rattle.std.proofs.Crossing.{frees}
use Rattle.bsp_steps.specs.Owned.{heap, owns_if}
use Rattle.bsp_steps.specs.contracts.state.State as state
use Rattle.bsp_steps.specs.contracts.handle.Handle as handle
use Rattle.bsp_steps.proofs.state.State.TheSendSync as state-sent

state_send : IsSend state.the_row
state_send = state-sent.the_send

pointer_send : IsSend RawPtr
pointer_send = search sendable depth 20

held : (p : Ptr) (o : Option (state.the_row).Denot) → Keyless (owns_if state.the_row p o)
held p None = tt
held p (Some x) = (lies state.the_row state_send p x, frees.frees heap (bare (lone (state.the_row).mir)) p)

pub send : IsSend handle.the_row
send = let O = handle.the_type in
    owning_send O (pointer_send, tt) (λ d. held d.at d.state)
    (λ k. quiet (to O) (exits_of k (fields O)) ((struct_send (shape O) (pointer_send, tt)).leaving k))
