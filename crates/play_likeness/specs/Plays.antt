-- What a play does is fixed by its disk and what the outside gives it.
use Rattle.std.specs.Prelude.{◌≡◌, Bool, true, false, List}
use Rattle.std.specs.declared.result.Result.TheVariants.{Ok}
use Rattle.host_port.specs.declared.event.Event.{Event}
use Rattle.host_port.specs.Disk.{Disk, disk}
use Rattle.host_port.specs.Ran.{Honest}
use Rattle.session_play.specs.Acts.{AllActs}
use Rattle.session_play.specs.Play.{Act, Line, Play, Goes}
use Rattle.play_likeness.specs.Loads.{LoadsTell}
use Rattle.play_likeness.specs.Outside.{Outside, Gives, said}

-- The events say what is so from this disk on, each load tells what stands, and the outside gives what they take.
pub record IsGiven (d : Disk) (o p : Outside) (es : List Event) : Type 0 where
  pub honest : Honest d es
  pub tell : LoadsTell es
  pub gives : Gives o es p

-- an act that takes no line of the input
abbrev pub takes_no_line : Act → Bool
takes_no_line (Line i) = false
takes_no_line act = true

-- Two traces print the same and leave the same disk.
pub record AreAlike (d : Disk) (es fs : List Event) : Type 0 where
  pub says : said es ≡ said fs
  pub leaves : disk d es ≡ disk d fs

-- A play that takes no line, and comes to its end, does the same from one disk with the same outside.
abbrev pub PlaysAreAlike : Type 0
PlaysAreAlike = (p : Play (Unit {0})) (d : Disk) (o a b : Outside) (es fs : List Event) → AllActs takes_no_line p
    → IsGiven d o a es → IsGiven d o b fs → Goes p es (Ok tt) → Goes p fs (Ok tt) → AreAlike d es fs
