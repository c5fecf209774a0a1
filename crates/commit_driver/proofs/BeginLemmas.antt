-- How a job begins: its right is taken, and the time may be asked for.
use Rattle.std.proofs.Common.{◌≡◌, ℕ, ℤ, Bool, true, false, ◌||◌, List, ◌++◌, Some, refl, ap, sym, ◌∙◌}
use Rattle.std.specs.List.{list_any}
use Rattle.std.proofs.lemmas.List.Folds.{list_any-append}
use Rattle.host_port.specs.declared.event.Event.{Event}
use Rattle.commit_record.specs.declared.record.Record.{Record}
use Rattle.commit_machine.specs.Names.{right_name}
use Rattle.commit_machine.specs.Jobs.{Before, Ending, Failed, NoMemory, Job, all_of, at_time}
use Rattle.commit_machine.specs.Machine.{Seizing, Timing, Looking, Releasing, Ended, ToAsk, ToSeize, ToRelease, Went, Fault}
use Rattle.commit_machine.specs.Goes.{Goes}
use Rattle.commit_machine.proofs.runs.Stretches.{stretches_join}
use Rattle.commit_driver.specs.declared.beginning.Begun.TheVariants as begun
use Rattle.commit_driver.specs.Did.{Did, LoadsFit}
use Rattle.commit_driver.specs.declared.step.End.{End}
use Rattle.commit_driver.specs.Places.{end_as, WantedAs}
use Rattle.commit_driver.specs.Answers.{settled_end}
use Rattle.commit_driver.specs.Drives.{is_past_limit, Drives}
use Rattle.commit_driver.specs.Beginnings.{Begins}
use Rattle.commit_driver.proofs.WithinLemmas.{fits-did, fits-both}
use Rattle.commit_driver.proofs.DriveLemmas.{goes-call, goes-refused, did-within}

-- no load met too many bytes or saw a file past the limit
abbrev pub AreFine : List Event → Type 0
AreFine es = (list_any is_past_limit es ≡ false) × LoadsFit es

-- neither stretch met too many bytes
pub within-both : (xs ys : List Event) → list_any is_past_limit xs ≡ false → list_any is_past_limit ys ≡ false → list_any is_past_limit (xs ++ ys) ≡ false
within-both xs ys a b = list_any-append is_past_limit xs ys ∙ ap (λ (r : Bool). r || list_any is_past_limit ys) a ∙ b

module _ (j : Job) (right : List ℕ) (is : right ≡ right_name j.actor) where
  to-seize : Some (ToSeize (right_name j.actor)) ≡ Some (ToSeize right)
  to-seize = ap (λ (n : List ℕ). Some (ToSeize n)) (sym is)

  pub begins-taken : (es : List Event) → Did (ToSeize right) (Went true) es → Begins j begun.Taken es
  begins-taken es did = record {
    within = did-within (ToSeize right) (Went true) es did;
    fit = fits-did (ToSeize right) (Went true) es did;
    goes =
        goes-call j Seizing (ToSeize right) (Went true) es to-seize did;
  }

  pub begins-busy : (es : List Event) → Did (ToSeize right) (Went false) es → Begins j begun.Busy es
  begins-busy es did = record {
    within = did-within (ToSeize right) (Went false) es did;
    fit = fits-did (ToSeize right) (Went false) es did;
    goes =
        goes-call j Seizing (ToSeize right) (Went false) es to-seize did;
  }

  -- the right is given up at such an end
  pub gives-up : (es : List Event) → Did (ToRelease right) (Went true) es → (e : Ending) → Goes j (Releasing e) es (Ended e)
  gives-up es did e = goes-call j (Releasing e) (ToRelease right) (Went true) es (ap (λ (n : List ℕ). Some (ToRelease n)) (sym is)) did

  pub begins-failed : (xs ys : List Event) → Did (ToSeize right) Fault xs → Did (ToRelease right) (Went true) ys → Begins j begun.Failed (xs ++ ys)
  begins-failed xs ys seized released = record {
    within = within-both xs ys (did-within (ToSeize right) Fault xs seized) (did-within (ToRelease right) (Went true) ys released);
    fit = fits-both xs ys (fits-did (ToSeize right) Fault xs seized) (fits-did (ToRelease right) (Went true) ys released);
    goes = stretches_join j Seizing (Releasing (Failed Before)) (Ended (Failed Before)) xs ys (goes-call j Seizing (ToSeize right) Fault xs to-seize seized) (gives-up ys released (Failed Before));
  }

-- the time is asked for once the right is taken
pub timed : (j : Job) (seconds : ℤ) (xs ys : List Event) → Begins (at_time (Some seconds) j) begun.Taken xs → Did (ToAsk seconds) (Went true) ys
    → AreFine (xs ++ ys) × Goes (at_time (Some seconds) j) Seizing (xs ++ ys) Looking
timed j seconds xs ys began asked =
    let job = at_time (Some seconds) j in (
      (
        within-both xs ys began.within (did-within (ToAsk seconds) (Went true) ys asked),
        fits-both xs ys began.fit (fits-did (ToAsk seconds) (Went true) ys asked),
      ),
      stretches_join job Seizing (Timing seconds) Looking xs ys began.goes (goes-call job (Timing seconds) (ToAsk seconds) (Went true) ys refl asked),
    )

-- memory runs out then, and the right is given up
pub timed-short : (j : Job) (seconds : ℤ) (right : List ℕ) → right ≡ right_name j.actor → (xs ys : List Event)
    → AreFine xs × Goes (at_time (Some seconds) j) Seizing xs Looking → Did (ToRelease right) (Went true) ys
    → AreFine (xs ++ ys) × Goes (at_time (Some seconds) j) Seizing (xs ++ ys) (Ended NoMemory)
timed-short j seconds right is xs ys began released =
    let job = at_time (Some seconds) j in (
      (within-both xs ys began.0.0 (did-within (ToRelease right) (Went true) ys released), fits-both xs ys began.0.1 (fits-did (ToRelease right) (Went true) ys released)),
      stretches_join job Seizing (Releasing NoMemory) (Ended NoMemory) xs ys (goes-refused job Seizing Looking (Releasing NoMemory) xs refl began.1) (gives-up job right is ys released NoMemory),
    )

-- a job that was driven from its start to this end
pub record Driven (j : Job) (found : Record) (es : List Event) (result : End) : Type 0 where
  pub hidden : Ending
  pub wanted : WantedAs (all_of j) hidden
  pub within : settled_end result ≡ false → list_any is_past_limit es ≡ false
  pub fit : LoadsFit es
  pub goes : Goes j Seizing es (Ended (end_as j hidden found result))

-- its right is taken, and then it is driven
pub driven-whole : (j : Job) (found : Record) (result : End) (xs ys : List Event) → AreFine xs × Goes j Seizing xs Looking → Drives j found ys result → Driven j found (xs ++ ys) result
driven-whole j found result xs ys began d = record {
  hidden = d.hidden;
  wanted = d.wanted;
  within = λ e. within-both xs ys began.0.0 (d.within e);
  fit = fits-both xs ys began.0.1 d.fit;
  goes = stretches_join j Seizing Looking (Ended (end_as j d.hidden found result)) xs ys began.1 d.goes;
}
