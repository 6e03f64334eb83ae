use Rattle.std.proofs.Common.{refl, sym, ap, subst, arith, length}
use Rattle.sums.proofs.Texts.{name-length}
use Rattle.accounts.specs.Inside.{SoundQuarter}
use Rattle.accounts.proofs.Bounds.{more-sound}
use Rattle.quarter_io.proofs.Names.enter.Goals as goal

pub put_account-end-requires : goal.put_account-end-requires
put_account-end-requires g c = omega (arith, ap length c.name_of-name.ensures, name-length c.args.line.now)

pub returns-clause-sound : goal.returns-clause-sound
returns-clause-sound g c =
    (subst SoundQuarter (sym c.enter-self.ensures) (more-sound c.args.self.now.quarter c.account_of-account.result c.requires c.account_of-account.ensures), refl)
