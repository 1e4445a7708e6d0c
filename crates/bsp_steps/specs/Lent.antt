-- A handle whose state is another one.
use Rattle.std.specs.Prelude.{Some}
use Rattle.bsp_steps.specs.declared.handle.Handle.{Handle}
use Rattle.bsp_steps.specs.declared.state.State.{State}

abbrev pub with_state : Handle → State → Handle
with_state h x = record h { state = Some x }
