use Rattle.accounts.proofs.Behind.{counted-event, can-count}
use Rattle.accounts.proofs.counting.CountingReader.meet.Goals as goal

pub count_event-self-requires : goal.count_event-self-requires
count_event-self-requires c = can-count c.args.self.now c.args.event c.args._line.now c.requires.told c.requires.can

pub returns : goal.returns
returns c = counted-event c.args.self.now c.args.event c.args._line.now c.count_event-self.ensures
