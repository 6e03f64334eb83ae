use Rattle.salvaging.proofs.Behind.{salvaged-event, can-save, can-list}
use Rattle.salvaging.proofs.feeding.SalvagingReader.meet.Goals as goal

pub put_saved-self-requires : goal.put_saved-self-requires
put_saved-self-requires c = can-save c.args.self.now c.args.event c.args.line.now c.requires.told c.requires.can

pub put_listed-self-requires : goal.put_listed-self-requires
put_listed-self-requires c = can-list c.args.self.now c.args.event c.args.line.now c.requires.told c.requires.can

pub returns : goal.returns
returns c = salvaged-event c.args.self.now c.args.event c.args.line.now c.put_saved-self.ensures (c.put_listed-self.ensures c.args.line.now)
