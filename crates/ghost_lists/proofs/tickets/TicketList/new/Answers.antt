use Rattle.ghost_lists.proofs.Passing.{kept_first}
use Rattle.ghost_lists.proofs.tickets.TicketList.new.Goals as goal

pub of_words-requires : goal.of_words-requires
of_words-requires g c = kept_first
