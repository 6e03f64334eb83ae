use Rattle.verdicts.proofs.Behind.{written-event}
use Rattle.verdicts.proofs.feeding.WritingReader.meet.Goals as goal

pub returns : goal.returns
returns c = written-event c.args.self.now c.args.event c.args._line.now (c.put_event-self.ensures c.args._line.now)
