-- The names of keys.
use Rattle.std.specs.Prelude.{ℕ, true, false, List, [], ◌∷◌, codes, Option}
use Rattle.std.specs.List.{find}
use Rattle.std.specs.Option.{option_map}
use Rattle.mail_text.specs.Ascii.{same_ascii}
use Rattle.mail_search.specs.declared.criterion.Fact.TheVariants.{Seen, Deleted, Answered, Flagged, Draft}
use Rattle.mail_search.specs.declared.criterion.Clock.TheVariants.{Arrival, Message}
use Rattle.mail_search.specs.declared.criterion.Order.TheVariants.{Before, On, Since}
use Rattle.mail_search.specs.declared.names.Opening.{Opening}
use Rattle.mail_search.specs.declared.names.Opening.TheVariants.{All, Is, Field, Header, Body, Text, Larger, Smaller, Day, Not, Or}
use Rattle.mail_search.specs.declared.names.Named as code

-- the name of a key, and what it begins
pub record Named : Type 0 where
  pub name : List ℕ
  pub opening : Opening

abbrev pub named : List ℕ → Opening → Named
named name opening = record { name = name; opening = opening }

-- the names of all keys
unfoldable pub names : List Named
names =
    named (codes "all") All
    ∷ named (codes "answered") (Is Answered true)
    ∷ named (codes "deleted") (Is Deleted true)
    ∷ named (codes "draft") (Is Draft true)
    ∷ named (codes "flagged") (Is Flagged true)
    ∷ named (codes "seen") (Is Seen true)
    ∷ named (codes "unanswered") (Is Answered false)
    ∷ named (codes "undeleted") (Is Deleted false)
    ∷ named (codes "undraft") (Is Draft false)
    ∷ named (codes "unflagged") (Is Flagged false)
    ∷ named (codes "unseen") (Is Seen false)
    ∷ named (codes "subject") Field
    ∷ named (codes "from") Field
    ∷ named (codes "to") Field
    ∷ named (codes "cc") Field
    ∷ named (codes "bcc") Field
    ∷ named (codes "header") Header
    ∷ named (codes "body") Body
    ∷ named (codes "text") Text
    ∷ named (codes "larger") Larger
    ∷ named (codes "smaller") Smaller
    ∷ named (codes "before") (Day Arrival Before)
    ∷ named (codes "on") (Day Arrival On)
    ∷ named (codes "since") (Day Arrival Since)
    ∷ named (codes "sentbefore") (Day Message Before)
    ∷ named (codes "senton") (Day Message On)
    ∷ named (codes "sentsince") (Day Message Since)
    ∷ named (codes "not") Not
    ∷ named (codes "or") Or
    ∷ []

-- what a word begins as the name of a key, the case of ASCII letters ignored
abbrev pub opening_of : List ℕ → Option Opening
opening_of word = option_map (λ n. n.opening) (find (λ n. same_ascii n.name word) names)

-- the name that a row of the code's table has
abbrev pub named_by : code.Named → Named
named_by n = record { name = n.name.now; opening = n.opening }
