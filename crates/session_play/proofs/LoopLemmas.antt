-- Rounds so far, and what is left of a loop.
use Rattle.std.proofs.Common.{◌≡◌, List, [], ◌++◌, refl, sym, subst, append_assoc}
use Rattle.std.specs.declared.result.Result.{Result}
use Rattle.std.specs.declared.result.Result.TheVariants.{Ok, Err}
use Rattle.host_port.specs.declared.event.Event.{Event}
use Rattle.session_play.specs.declared.stop.Stop.{Stop}
use Rattle.session_play.specs.Play.{Play, Goes, Next, Go, Last, Loop, again, last, cut}

-- these events lead from x to y: a loop that goes on from y goes on from x with them in front
pub record SoFar {X R : Type 0} (round : X → Play (Next X R)) (x y : X) (es : List Event) : Type 0 where
  pub whole : (rest : List Event) (out : Result R Stop) → Loop round y rest out → Loop round x (es ++ rest) out

pub so-far-none : {X R : Type 0} (round : X → Play (Next X R)) (x : X) (es : List Event) → es ≡ [] → SoFar round x x es
so-far-none round x es none = record { whole = λ rest out l. let L : List Event → Type 0 = λ es. Loop round x (es ++ rest) out in subst L (sym none) l }

pub so-far-more : {X R : Type 0} (round : X → Play (Next X R)) (x y z : X) (es fs : List Event) → SoFar round x y es → Goes (round y) fs (Ok (Go z)) → SoFar round x z (es ++ fs)
so-far-more round x y z es fs so goes = record {
  whole = λ rest out l. let L : List Event → Type 0 = λ es. Loop round x es out in
      subst L (sym (append_assoc es fs rest)) (so.whole (fs ++ rest) out (again fs rest refl goes l));
}

pub so-far-last : {X R : Type 0} (round : X → Play (Next X R)) (x y : X) (r : R) (es fs : List Event) → SoFar round x y es → Goes (round y) fs (Ok (Last r)) → Loop round x (es ++ fs) (Ok r)
so-far-last round x y r es fs so goes = so.whole fs (Ok r) (last goes)

pub so-far-cut : {X R : Type 0} (round : X → Play (Next X R)) (x y : X) (cause : Stop) (es fs : List Event) → SoFar round x y es → Goes (round y) fs (Err cause) → Loop round x (es ++ fs) (Err cause)
so-far-cut round x y cause es fs so goes = so.whole fs (Err cause) (cut goes)
