-- A stop that does nothing of an event, or all of it.
use Rattle.std.proofs.Common.{◌≡◌, ◌∙◌, ℕ, List, Bool, true, false, nat_le, ◌++◌, length, take, drop, refl, sym, ap, ⊎_elim, if◌then◌else◌}
use Rattle.std.proofs.lemmas.Bool.{cases_Bool, cond-true, cond-false}
use Rattle.std.proofs.lemmas.List.{take-append-drop}
use Rattle.std.proofs.lemmas.Slice.Eq.{bytes_eq-Decides}
use Rattle.std.specs.Str.{bytes_eq}
use Rattle.std.specs.declared.option.Option.{Option}
use Rattle.std.specs.declared.option.Option.TheVariants.{Some, None}
use Rattle.host_port.specs.declared.event.Event.{Event}
use Rattle.host_port.specs.declared.event.Event.TheVariants as event
use Rattle.host_port.specs.declared.event.Holder.{Holder}
use Rattle.host_port.specs.declared.event.Holder.TheVariants.{Own, Other}
use Rattle.host_port.specs.declared.event.Part.TheVariants.{Before, After}
use Rattle.std.specs.Prelude.{is_some, is_none}
use Rattle.host_port.specs.Disk.{Disk, extended, after, with_at, without_own}
use Rattle.host_port.specs.Ends.{tail_of, stopped, ended, carried_out, is_owner, is_open}
use Rattle.host_port.specs.Disk.{SameDisk}

same : (d : Disk) → SameDisk d d
same d = record { files = λ q. refl; locks = λ q. refl; rights = λ q. refl }

-- what stands at a name is put there again
put-again : {A : Type 0} (m : List ℕ → Option A) (name q : List ℕ) → with_at m name (m name) q ≡ m q
put-again m name q =
    ⊎_elim (λ is. cond-true _ _ _ is ∙ sym (ap m ((bytes_eq-Decides q name).0 is))) (λ other. cond-false _ _ _ other) (cases_Bool (bytes_eq q name))

-- the tail that stands is written again
same-tail : (at : ℕ) (file : Option (List ℕ)) → extended file at (tail_of at file) ≡ file
same-tail at None = refl
same-tail at (Some bytes) = ap Some (go (nat_le at (length bytes)))
  where
    go : (b : Bool) → (if b then take at bytes ++ drop at bytes else bytes) ≡ bytes
    go true = take-append-drop at bytes
    go false = refl

given-up-twice : (r : Option Holder) → without_own (without_own r) ≡ without_own r
given-up-twice None = refl
given-up-twice (Some Own) = refl
given-up-twice (Some Other) = refl

-- a right that is given up before the end is given up at the end
given-up : (m : List ℕ → Option Holder) (name q : List ℕ) → without_own (with_at m name (without_own (m name)) q) ≡ without_own (m q)
given-up m name q =
    ⊎_elim
    (λ is. ap without_own (cond-true _ _ _ is) ∙ given-up-twice (m name) ∙ sym (ap (λ n. without_own (m n)) ((bytes_eq-Decides q name).0 is)))
    (λ other. ap without_own (cond-false _ _ _ other))
    (cases_Bool (bytes_eq q name))

-- nothing of the event was done: the run stopped before it
pub stop-before : (d : Disk) (e : Event) → SameDisk (stopped d e Before) (ended d)
stop-before d (event.In bytes failed) = same (ended d)
stop-before d (event.Out bytes failed) = same (ended d)
stop-before d (event.Child program args input answer failed) = same (ended d)
stop-before d (event.Edit name shell command text answer failed) = same (ended d)
stop-before d (event.Now seconds) = same (ended d)
stop-before d (event.Load name seen) = same (ended d)
stop-before d (event.Stage name bytes failed) = record { files = put-again d.files name; locks = λ q. refl; rights = λ q. refl }
stop-before d (event.Publish from to done failed) = same (ended d)
stop-before d (event.Extend name at tail failed) =
    record { files = λ q. ap (λ (file : Option (List ℕ)). with_at d.files name file q) (same-tail at (d.files name)) ∙ put-again d.files name q; locks = λ q. refl; rights = λ q. refl }
stop-before d (event.Erase name done failed) = same (ended d)
stop-before d (event.Lock name token got failed) = same (ended d)
stop-before d (event.Unlock name token done failed) = same (ended d)
stop-before d (event.Seize name got failed) = same (ended d)
stop-before d (event.Release name) = record { files = λ q. refl; locks = λ q. refl; rights = given-up d.rights name }
stop-before d (event.Foreign step) = same (ended d)

-- all of the event was done: the run stopped after it
pub stop-after : (d : Disk) (e : Event) → SameDisk (stopped d e After) (ended (after d (carried_out d e)))
stop-after d (event.In bytes failed) = same (ended d)
stop-after d (event.Out bytes failed) = same (ended d)
stop-after d (event.Child program args input answer failed) = same (ended d)
stop-after d (event.Edit name shell command text answer failed) = same (ended d)
stop-after d (event.Now seconds) = same (ended d)
stop-after d (event.Load name seen) = same (ended d)
stop-after d (event.Stage name bytes failed) = same _
stop-after d (event.Publish from to done failed) = go (is_some (d.files from))
  where
    go : (b : Bool) → SameDisk (ended (after d (event.Publish from to b true))) (ended (after d (event.Publish from to b false)))
    go true = same _
    go false = same _
stop-after d (event.Extend name at tail failed) = same _
stop-after d (event.Erase name done failed) = same _
stop-after d (event.Lock name token got failed) = go (is_none (d.locks name))
  where
    go : (b : Bool) → SameDisk (ended (after d (event.Lock name token b true))) (ended (after d (event.Lock name token b false)))
    go true = same _
    go false = same _
stop-after d (event.Unlock name token done failed) = go (is_owner token (d.locks name))
  where
    go : (b : Bool) → SameDisk (ended (after d (event.Unlock name token b true))) (ended (after d (event.Unlock name token b false)))
    go true = same _
    go false = same _
stop-after d (event.Seize name got failed) = go (is_open (d.rights name))
  where
    go : (b : Bool) → SameDisk (ended (after d (event.Seize name b true))) (ended (after d (event.Seize name b false)))
    go true = same _
    go false = same _
stop-after d (event.Release name) = same _
stop-after d (event.Foreign step) = same _
