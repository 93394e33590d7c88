-- `lent::Tested::same` meets its contract. Assumes nothing.
use Rattle.lent.proofs.Points.{at_points}
use Rattle.lent.proofs.Tested.same.Goals as goal

pub returns : goal.returns
returns c =
    let f = c.args.self.fine in
    let i = c.args.i in
    let j = c.args.j in
    rw (at_points f i c.requires.0, at_points f j c.requires.1) (c.same.ensures (f.on i c.requires.0) (f.on j c.requires.1))
