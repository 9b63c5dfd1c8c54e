use Rattle.std.proofs.Common.{rules}
use Rattle.vortex_streams.proofs.Fronts.{whole_read}
use Rattle.vortex_streams.proofs.plain.PlainInputByteSource.read.Goals as goal

pub returns-clause-bytes : goal.returns-clause-bytes
returns-clause-bytes c =
    let at = c.self.inside.at in
    rw (← c.self.view_is) (whole_read c.self.inside.bytes c.args.buffer.now c.copy_from_slice.new.self at c.min-n.result c.self.invariant (search rules) (search rules))
