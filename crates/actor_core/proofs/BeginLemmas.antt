-- Actors that begin: what was found on a copy of the disk holds of the disk, and their state is a reached one.
use Rattle.std.proofs.Common.{◌≡◌, ℕ, List, [], map, Option, Some, None, refl, ap, sym, subst, ◌∙◌}
use Rattle.std.specs.declared.result.Result.TheVariants.{Ok}
use Rattle.host_port.specs.Disk.{SameDisk}
use Rattle.commit_machine.specs.Settled.{Files, Locks}
use Rattle.memory_disk.specs.declared.standing.Standing.{Standing}
use Rattle.memory_disk.specs.Lists.{lookup, named, disk_of, NamesOnce}
use Rattle.memory_disk.specs.Standings.{disk_now}
use Rattle.core_steps.specs.declared.actor.Actor.{Actor}
use Rattle.core_steps.specs.declared.actor.Doing.TheVariants.{Nothing}
use Rattle.core_steps.specs.declared.actor.Member.{Member}
use Rattle.core_steps.specs.Cores.{SameCore}
use Rattle.core_steps.specs.Settling.{changed_by}
use Rattle.core_steps.specs.Starts.{begun, MayBegin, IsBadRecord, IsTokenTaken}
use Rattle.core_steps.specs.Theorem.{settled_files}
use Rattle.core_steps.specs.Turns.{Passed}
use Rattle.core_steps.proofs.Views.{same_at}
use Rattle.actor_core.specs.Answers.{Begins}
use Rattle.actor_core.specs.Shown.{Held, IsCore, state_shown}
use Rattle.actor_disk.specs.Starting.{LooksGood, TakesFirst}
use Rattle.actor_disk.proofs.StartLemmas.{bad_record, token_taken}

-- what holds of a disk holds of one that is the same at each name
moved : (P : Files → Locks → Type 0) (f g : Files) (l m : Locks) → ((q : List ℕ) → f q ≡ g q) → ((q : List ℕ) → l q ≡ m q) → P f l → P g m
moved P f g l m e h x = subst (λ (z : Files). P z m) (same_at e) (subst (λ (z : Locks). P f z) (same_at h) x)

module _ (files : List (List ℕ × List ℕ)) (locks : List (List ℕ × ℕ)) (actors : List Actor) (disk : Standing) (same : SameDisk (disk_now disk) (disk_of files locks)) where
  looks_there : (o : Option (List ℕ)) → LooksGood actors (named disk.files) (named disk.locks) actors o → LooksGood actors (lookup files) (lookup locks) actors o
  looks_there o = moved (λ f l. LooksGood actors f l actors o) (named disk.files) (lookup files) (named disk.locks) (lookup locks) same.files same.locks

  takes_there : (o : Option ℕ) → TakesFirst (named disk.files) (named disk.locks) actors o → TakesFirst (lookup files) (lookup locks) actors o
  takes_there o = moved (λ f l. TakesFirst f l actors o) (named disk.files) (lookup files) (named disk.locks) (lookup locks) same.files same.locks

  pub bad_there : (name : List ℕ) → LooksGood actors (named disk.files) (named disk.locks) actors (Some name) → IsBadRecord (lookup files) (lookup locks) actors name
  bad_there name looks = bad_record (lookup files) (lookup locks) actors name (looks_there (Some name) looks)

  pub taken_there : (token : ℕ) → LooksGood actors (named disk.files) (named disk.locks) actors None → TakesFirst (named disk.files) (named disk.locks) actors (Some token)
      → IsTokenTaken (lookup files) (lookup locks) actors token
  taken_there token looks takes = token_taken (lookup files) (lookup locks) actors token (looks_there None looks) (takes_there (Some token) takes)

  pub may_there : LooksGood actors (named disk.files) (named disk.locks) actors None → TakesFirst (named disk.files) (named disk.locks) actors None → MayBegin (lookup files) (lookup locks) actors
  may_there looks takes =
      let t = takes_there None takes in
      record { fit = t.0; good = looks_there None looks; untaken = λ earlier later a token is taken. t.1 earlier later a token is taken }

  -- what is held then
  pub shown_same : (h : Held) → ((q : List ℕ) → lookup h.files q ≡ named disk.files q) → ((q : List ℕ) → lookup h.locks q ≡ named disk.locks q) → h.holders ≡ []
      → h.members ≡ map (λ (a : Actor). (let m : Member = record { actor = a; doing = Nothing } in m)) actors → h.places ≡ []
      → SameCore (state_shown h) (begun (lookup files) (lookup locks) actors)
  shown_same h shows owns holders members places = record {
    files = λ q. shows q ∙ same.files q;
    locks = λ q. owns q ∙ same.locks q;
    holders = λ q. ap (λ (hs : List (List ℕ × ℕ)). lookup hs q) holders;
    members = members;
    places = places;
  }

  pub begins_there : (h : Held) → LooksGood actors (named disk.files) (named disk.locks) actors None → TakesFirst (named disk.files) (named disk.locks) actors None
      → SameCore (state_shown h) (begun (lookup files) (lookup locks) actors) → Begins (lookup files) (lookup locks) actors (Ok h)
  begins_there h looks takes is = (
    may_there looks takes,
    is,
    λ n. ap (λ (ps : List Passed). changed_by ps (settled_files (state_shown h)) n) (sym is.places),
  )

  pub core_there : (h : Held) → LooksGood actors (named disk.files) (named disk.locks) actors None → TakesFirst (named disk.files) (named disk.locks) actors None
      → SameCore (state_shown h) (begun (lookup files) (lookup locks) actors) → NamesOnce h.files → NamesOnce h.locks → IsCore h
  core_there h looks takes is once apart = record {
    reached = record { files = lookup files; locks = lookup locks; actors = actors; steps = []; may_begin = may_there looks takes; is = is };
    files = once;
    locks = apart;
  }

-- what isn't there
pub none_left : {A : Type 0} (o : Option A) → ((x : A) → o ≡ Some x → ⊥) → o ≡ None
none_left None other = refl
none_left (Some x) other = absurd (other x refl)

-- the lists that were copied
pub same_lists : (fs gs : List (List ℕ × List ℕ)) (ls ms : List (List ℕ × ℕ)) (disk : Standing) → fs ≡ gs → ls ≡ ms → SameDisk (disk_now disk) (disk_of fs ls)
    → SameDisk (disk_now disk) (disk_of gs ms)
same_lists fs gs ls ms disk e h same =
    subst (λ (z : List (List ℕ × List ℕ)). SameDisk (disk_now disk) (disk_of z ms)) e (subst (λ (z : List (List ℕ × ℕ)). SameDisk (disk_now disk) (disk_of fs z)) h same)
