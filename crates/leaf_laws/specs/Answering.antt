-- Whom a draft goes to that answers a message.
use Rattle.std.specs.Prelude.{◌≡◌, ◌⊎◌, ℕ, Bool, true, false, List, [], ◌++◌, Some, codes}
use Rattle.std.specs.List.{Contains}
use Rattle.alias_groups.specs.declared.own.Own.{Own}
use Rattle.alias_groups.specs.Expansion.{dropped_names}
use Rattle.name_lists.specs.Names.{has_name}
use Rattle.draft_text.specs.declared.draft.Draft.{Draft}
use Rattle.draft_text.specs.declared.reply.ReplyHow.{ReplyHow}
use Rattle.draft_text.specs.declared.reply.ReplyHow.TheVariants as how
use Rattle.draft_text.specs.Replies.{answered, bare_addresses, reply}

-- the addresses of a field of the message that get an answer to all; one to the authors goes to none of them
abbrev pub others_in : List ℕ → ReplyHow → List ℕ → List (List ℕ)
others_in field how.All text = bare_addresses field text
others_in field how.Authors text = []

-- a name that isn't to be dropped stays: as an address of `To` it is among those to whom the draft goes, and as one of `Cc` among
-- these or those who get a copy
pub record Stays (how : ReplyHow) (text : List ℕ) (draft : Draft) (name : List ℕ) : Type 0 where
  pub to : has_name (others_in (codes "To") how text) name ≡ true → has_name draft.to name ≡ true
  pub cc : has_name (others_in (codes "Cc") how text) name ≡ true → has_name (draft.to ++ draft.cc) name ≡ true

abbrev pub OthersStay : Type 0
OthersStay = (how : ReplyHow) (own : Own) (metoo : Bool) (text : List ℕ) (draft : Draft) (name : List ℕ)
    → reply how own metoo text ≡ Some draft → has_name (dropped_names own metoo) name ≡ false
    → Stays how text draft name

-- a name of the draft is meant: who gets it is answered or an address of `To`, and who gets a copy is an address of `Cc`
pub record IsMeant (how : ReplyHow) (text : List ℕ) (draft : Draft) (name : List ℕ) : Type 0 where
  pub to : Contains draft.to name → Contains (answered text) name ⊎ Contains (others_in (codes "To") how text) name
  pub cc : Contains draft.cc name → Contains (others_in (codes "Cc") how text) name
  pub bcc : draft.bcc ≡ []

abbrev pub NobodyElse : Type 0
NobodyElse = (how : ReplyHow) (own : Own) (metoo : Bool) (text : List ℕ) (draft : Draft) (name : List ℕ)
    → reply how own metoo text ≡ Some draft → IsMeant how text draft name
