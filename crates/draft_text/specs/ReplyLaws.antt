-- What holds of every draft that answers a message.
use Rattle.std.specs.Prelude.{◌≡◌, ℕ, Bool, true, List, ◌++◌, Some}
use Rattle.std.specs.List.{IsDistinct}
use Rattle.mail_text.specs.Ascii.{same_ascii}
use Rattle.alias_groups.specs.declared.own.Own.{Own}
use Rattle.alias_groups.specs.Expansion.{dropped_names}
use Rattle.name_lists.specs.Names.{has_name}
use Rattle.draft_text.specs.declared.draft.Draft.{Draft}
use Rattle.draft_text.specs.declared.reply.ReplyHow.{ReplyHow}
use Rattle.draft_text.specs.Replies.{answered, reply}

-- no two addresses of the draft are the same
abbrev pub EachOnce : Type 0
EachOnce = (how : ReplyHow) (own : Own) (metoo : Bool) (text : List ℕ) (draft : Draft) → reply how own metoo text ≡ Some draft
    → IsDistinct same_ascii (draft.to ++ draft.cc)

-- who is answered is among those to whom it goes
abbrev pub AnsweredStay : Type 0
AnsweredStay = (how : ReplyHow) (own : Own) (metoo : Bool) (text : List ℕ) (draft : Draft) (name : List ℕ)
    → reply how own metoo text ≡ Some draft → has_name (answered text) name ≡ true → has_name draft.to name ≡ true

-- an own name that is to be dropped is in the draft only where it is answered
abbrev pub OwnAreLeftOut : Type 0
OwnAreLeftOut = (how : ReplyHow) (own : Own) (metoo : Bool) (text : List ℕ) (draft : Draft) (name : List ℕ)
    → reply how own metoo text ≡ Some draft → has_name (dropped_names own metoo) name ≡ true
    → has_name (draft.to ++ draft.cc) name ≡ true → has_name (answered text) name ≡ true
