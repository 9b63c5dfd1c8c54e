use Rattle.std.proofs.Common.{◌∙◌, arith}
use Rattle.vortex_scan.proofs.Homing.{cleared_long, one_left}
use Rattle.vortex_scan.proofs.driver.end.Goals as goal

pub unreachable-requires : goal.unreachable-requires
unreachable-requires g c =
    let long = cleared_long g.S.IoSource c.args.run.live.slots c.take_sources-sources.result.items c.take_sources-sources.ensures.cleared ∙ c.requires.one in
    let none = c.in_default.ensures.cases.0 in
    omega (arith, long, none, c.take_sources-sources.result.ok.0)

pub returns : goal.returns
returns g c = one_left g.S.IoSource c.args.run.live.slots c.take_sources-sources.result.items c.pop.new.self.items c.in-Some.source c.requires.one c.take_sources-sources.ensures.cleared c.in-Some.ensures.items
