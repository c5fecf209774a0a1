-- The draft that answers a message (RFC 5322, sections 3.6.2 to 3.6.5).
use Rattle.std.specs.Prelude.{◌≡◌, ℕ, Bool, ◌==◌, List, [], ◌∷◌, ◌++◌, map, take, drop, length, slice_get, unwrap_or, codes, Option, if◌then◌else◌}
use Rattle.std.specs.List.{fold}
use Rattle.std.specs.declared.option.Option.TheVariants.{Some, None}
use Rattle.std.specs.declared.result.Result.{Result}
use Rattle.std.specs.declared.result.Result.TheVariants.{Ok, Err}
use Rattle.mail_text.specs.Ascii.{same_ascii}
use Rattle.mail_headers.specs.Header.{field_named}
use Rattle.mail_dates.specs.FromLines.{sender_of}
use Rattle.message_state.specs.declared.row.Row.{Row}
use Rattle.message_state.specs.Ids.{first_id}
use Rattle.mail_dates.specs.Messages.{after_from}
use Rattle.message_state.specs.Rows.{ids_named, value_or_empty}
use Rattle.alias_groups.specs.declared.own.Own.{Own}
use Rattle.alias_groups.specs.Expansion.{dropped_names}
use Rattle.name_lists.specs.Names.{has_name, with_name, with_names}
use Rattle.draft_text.specs.declared.draft.Draft.{Draft}
use Rattle.draft_text.specs.declared.reply.ReplyHow.{ReplyHow}
use Rattle.draft_text.specs.declared.reply.ReplyHow.TheVariants as how
use Rattle.draft_text.specs.declared.reply.ReplyError.{ReplyError}
use Rattle.draft_text.specs.declared.reply.ReplyError.TheVariants.{NoAuthor, Memory}
use Rattle.draft_text.specs.Addresses.{addresses_of}

-- the bare addresses of the first field of this name; none where there is no such field, or it doesn't read
abbrev pub bare_addresses : List ℕ → List ℕ → List (List ℕ)
bare_addresses name text = map (λ a. a.spec) (addresses_of (value_or_empty (field_named name text)))

-- the author of a message: the first address of `From`, else the sender that the From line has, else empty
abbrev pub author_of : List ℕ → List ℕ
author_of text = unwrap_or (slice_get (bare_addresses (codes "From") text) 0) (sender_of (after_from text))

-- a text alone, if it has a byte
abbrev pub unless_empty : List ℕ → List (List ℕ)
unless_empty [] = []
unless_empty (b ∷ bs) = (b ∷ bs) ∷ []

-- names if there are any, else others
abbrev pub or_else : List (List ℕ) → List (List ℕ) → List (List ℕ)
or_else names others = if length names == 0 then others else names

-- those to whom an answer goes: the addresses of `Reply-To`, if there are any, else the author; nobody if there is neither
abbrev pub answered : List ℕ → List (List ℕ)
answered text = or_else (bare_addresses (codes "Reply-To") text) (unless_empty (author_of text))

-- the names with one more last, unless it is among them, or to be dropped
abbrev pub with_other : List (List ℕ) → List (List ℕ) → List ℕ → List (List ℕ)
with_other dropped names name = if has_name dropped name then names else with_name names name

-- the names with each of others in turn
abbrev pub with_others : List (List ℕ) → List (List ℕ) → List (List ℕ) → List (List ℕ)
with_others dropped names others = fold (with_other dropped) names others

-- those to whom it goes, each once: who is answered, even where that is the user, and then the others of `To`
abbrev pub to_names : ReplyHow → List (List ℕ) → List ℕ → List (List ℕ)
to_names how.All dropped text = with_others dropped (with_names [] (answered text)) (bare_addresses (codes "To") text)
to_names how.Authors dropped text = with_names [] (answered text)

-- those who get a copy: what the others of `Cc` add to these
abbrev pub cc_names : ReplyHow → List (List ℕ) → List ℕ → List (List ℕ)
cc_names how.All dropped text =
    let to = to_names how.All dropped text in
    drop (length to) (with_others dropped to (bare_addresses (codes "Cc") text))
cc_names how.Authors dropped text = []

-- `Re: ` in front of a subject, unless it begins with `re:`, ASCII case ignored
abbrev pub answer_subject : List ℕ → List ℕ
answer_subject subject = if same_ascii (take 3 subject) (codes "re:") then subject else codes "Re: " ++ subject

-- a message's own id, or empty
abbrev pub own_id : List ℕ → List ℕ
own_id text = first_id (ids_named (codes "Message-ID") text)

-- the draft that answers a message, without the names that are to be dropped
unfoldable pub answer : ReplyHow → List (List ℕ) → List ℕ → Draft
answer how dropped text = record {
  to = to_names how dropped text;
  cc = cc_names how dropped text;
  bcc = [];
  subject = answer_subject (value_or_empty (field_named (codes "Subject") text));
  from = [];
  reply = own_id text;
  references = ids_named (codes "References") text ++ unless_empty (own_id text);
  body = [];
}

-- the first are those to whom it goes, the second those who get a copy
abbrev pub AreAddressees : ReplyHow → List (List ℕ) → List ℕ → List (List ℕ) × List (List ℕ) → Type 0
AreAddressees how dropped text parts = (parts.0 ≡ to_names how dropped text) × (parts.1 ≡ cc_names how dropped text)

-- the draft to these that answers a message of which this is known
abbrev pub draft_of : Row → List (List ℕ) → List (List ℕ) → Draft
draft_of row to cc = record {
  to = to;
  cc = cc;
  bcc = [];
  subject = answer_subject row.texts.subject;
  from = [];
  reply = row.texts.own_id;
  references = row.references ++ unless_empty row.texts.own_id;
  body = [];
}

-- that draft, if there is somebody to answer; without `metoo` the user's own names are dropped
abbrev pub reply : ReplyHow → Own → Bool → List ℕ → Option Draft
reply how own metoo text =
    if length (answered text) == 0 then None else Some (answer how (dropped_names own metoo) text)

-- an answer is the draft that is meant, or that there is none, or that memory ran out
abbrev pub IsReply : Option Draft → Result Draft ReplyError → Type 0
IsReply meant (Ok draft) = meant ≡ Some draft
IsReply meant (Err NoAuthor) = meant ≡ None
IsReply meant (Err Memory) = Unit {0}
