-- What a core holds, and the state that it shows.
use Rattle.std.specs.Prelude.{ℕ, List}
use Rattle.memory_disk.specs.Lists.{lookup, NamesOnce}
use Rattle.core_steps.specs.declared.actor.Member.{Member}
use Rattle.core_steps.specs.Turns.{Passed}
use Rattle.core_steps.specs.Cores.{CoreState}
use Rattle.core_steps.specs.Theorem.{IsReached}

-- files, owners of locks and holders of rights by name, the actors with what they are doing, and the commit places
pub record Held : Type 0 where
  pub files : List (List ℕ × List ℕ)
  pub locks : List (List ℕ × ℕ)
  pub holders : List (List ℕ × ℕ)
  pub members : List Member
  pub places : List Passed

-- of several pairs of one name the first counts
abbrev pub state_shown : Held → CoreState
state_shown h = record {
  disk = record { files = lookup h.files; locks = lookup h.locks; holders = lookup h.holders };
  members = h.members;
  places = h.places;
}

-- steps lead there from actors that may begin, and each name stands once
pub record IsCore (h : Held) : Type 0 where
  pub reached : IsReached (state_shown h)
  pub files : NamesOnce h.files
  pub locks : NamesOnce h.locks
