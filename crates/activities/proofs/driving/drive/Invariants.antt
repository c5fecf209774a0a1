use Rattle.activities.specs.Acting.{left_of, most_of}
use Rattle.activities.proofs.DriveLemmas.{Driving}
use Rattle.activities.proofs.driving.drive.Given as goal

abbrev pub invariant-turns : goal.invariant-turns
invariant-turns g l =
    Driving g.H.Host.world l.fn.host l.host (left_of (g.A.Activity.follows l.fn.activity l.fn.state) l.fn.state l.fn.first)
    (g.A.Activity.follows l.activity l.state) (g.A.Activity.takes l.activity l.state) g.A.Activity.ends l.state l.turn (g.A.Activity.changes l.fn.state l.state)

abbrev pub decreases-turns : goal.decreases-turns
decreases-turns g l = most_of (g.A.Activity.most l.activity) l.turn
