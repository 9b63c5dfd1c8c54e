use Rattle.vortex_dict.proofs.Named.{plain-shows}
use Rattle.vortex_dict.proofs.presence.presence_in.Goals as goal

pub returns : goal.returns
returns g c =
    let a = c.args.values.now in
    rw c.validity.ensures.value (plain-shows a.validity (g.V.Values.items a.values) (rw (g.V.Values.counted a.values) c.validity.ensures.fits))
