-- How the code reads the tokens of a criterion, one by one and without their gaps.
use Rattle.std.specs.Prelude.{ℕ, nat_lt, List, [], ◌∷◌, length, Option, Some, None, if◌then◌else◌}
use Rattle.std.specs.Option.{option_map, option_and_then}
use Rattle.mail_search.specs.declared.criterion.Step.TheVariants as code
use Rattle.mail_search.specs.declared.criterion.Test.{Test}
use Rattle.mail_search.specs.declared.criterion.Test.TheVariants as tested
use Rattle.mail_search.specs.declared.names.Opening.{Opening}
use Rattle.mail_search.specs.declared.names.Opening.TheVariants as opens
use Rattle.mail_search.specs.declared.argument.Argument.{Argument}
use Rattle.mail_search.specs.declared.argument.Argument.TheVariants as needs
use Rattle.mail_search.specs.declared.reader.Frame.{Frame}
use Rattle.mail_search.specs.declared.reader.Frame.TheVariants.{Negation, First, Second, Group, More}
use Rattle.mail_search.specs.declared.reader.Want.{Want}
use Rattle.mail_search.specs.declared.reader.Want.TheVariants as want
use Rattle.mail_search.specs.declared.reader.Reader.{Reader}
use Rattle.mail_search.specs.Grammar.{deepest, string_in, number_in, day_in}
use Rattle.mail_search.specs.Keys.{Key, test}
use Rattle.mail_search.specs.Names.{opening_of}
use Rattle.mail_search.specs.Steps.{with_step, keys_of, last_key}
use Rattle.mail_search.specs.Tokens.{Token, opener, closer, run}

-- what is open, the innermost first; the keys that are whole, the last one first; and what comes next
pub record Reading : Type 0 where
  pub frames : List Frame
  pub keys : List Key
  pub want : Want

abbrev pub reading : List Frame → List Key → Want → Reading
reading frames keys want = record { frames = frames; keys = keys; want = want }

-- the reading after the last key is whole
unfoldable pub settled : List Frame → List Key → Reading
settled [] ks = reading [] ks want.Nothing
settled (Negation ∷ fs) ks = settled fs (with_step ks code.Not)
settled (First ∷ fs) ks = reading (Second ∷ fs) ks want.Key
settled (Second ∷ fs) ks = settled fs (with_step ks code.Or)
settled (Group ∷ fs) ks = reading (More ∷ fs) ks want.Key
settled (More ∷ fs) ks = reading (More ∷ fs) (with_step ks code.Both) want.Key

-- the reading with one more frame, if it isn't too deep
abbrev pub opened : List Frame → List Key → Frame → Option Reading
opened fs ks frame = if nat_lt (length fs) deepest then Some (reading (frame ∷ fs) ks want.Key) else None

-- the reading after the name of a key with this opening
abbrev pub begun : List Frame → List Key → List ℕ → Opening → Option Reading
begun fs ks name opens.All = Some (settled fs (test tested.All ∷ ks))
begun fs ks name (opens.Is fact wanted) = Some (settled fs (test (tested.Is fact wanted) ∷ ks))
begun fs ks name opens.Field = Some (reading fs ks (want.Argument (needs.Field name)))
begun fs ks name opens.Header = Some (reading fs ks (want.Argument needs.Name))
begun fs ks name opens.Body = Some (reading fs ks (want.Argument needs.Body))
begun fs ks name opens.Text = Some (reading fs ks (want.Argument needs.Text))
begun fs ks name opens.Larger = Some (reading fs ks (want.Argument needs.Larger))
begun fs ks name opens.Smaller = Some (reading fs ks (want.Argument needs.Smaller))
begun fs ks name (opens.Day clock order) = Some (reading fs ks (want.Argument (needs.Day clock order)))
begun fs ks name opens.Not = opened fs ks Negation
begun fs ks name opens.Or = opened fs ks First

-- the test that is whole with its last argument
abbrev pub made : Argument → Token → Option Test
made needs.Name t = None
made (needs.Field name) t = option_map (tested.Field name) (string_in t)
made needs.Body t = option_map tested.Body (string_in t)
made needs.Text t = option_map tested.Text (string_in t)
made needs.Larger t = option_map tested.Larger (number_in t)
made needs.Smaller t = option_map tested.Smaller (number_in t)
made (needs.Day clock order) t = option_map (tested.Day clock order) (day_in t)

-- the reading after an argument
abbrev pub argued : List Frame → List Key → Argument → Token → Option Reading
argued fs ks needs.Name t = option_map (λ name. reading fs ks (want.Argument (needs.Field name))) (string_in t)
argued fs ks argument t = option_map (λ made. settled fs (test made ∷ ks)) (made argument t)

-- the reading after `)`
abbrev pub closed : List Frame → List Key → Option Reading
closed (More ∷ fs) ks = Some (settled fs ks)
closed fs ks = None

-- the reading after a token that is to begin a key or to end a group
abbrev pub keyed : List Frame → List Key → Token → Option Reading
keyed fs ks opener = opened fs ks Group
keyed fs ks closer = closed fs ks
keyed fs ks (run name) = option_and_then (begun fs ks name) (opening_of name)
keyed fs ks t = None

-- the reading after a token, by what comes next
abbrev pub by_want : List Frame → List Key → Want → Token → Option Reading
by_want fs ks want.Key t = keyed fs ks t
by_want fs ks (want.Argument argument) t = argued fs ks argument t
by_want fs ks want.Nothing t = None

-- the reading after a token, if it goes on
unfoldable pub after_token : Reading → Token → Option Reading
after_token r t = by_want r.frames r.keys r.want t

-- the reading after tokens, if it goes on
unfoldable pub after_tokens : Option Reading → List Token → Option Reading
after_tokens r [] = r
after_tokens r (t ∷ ts) = after_tokens (option_and_then (λ r. after_token r t) r) ts

-- the last key, if nothing more comes
abbrev pub key_at : List Key → Want → Option Key
key_at ks want.Nothing = Some (last_key ks)
key_at ks w = None

-- the key of a reading that needs nothing more
abbrev pub whole_key : Reading → Option Key
whole_key r = key_at r.keys r.want

-- nothing was read
abbrev pub start : Reading
start = reading [] [] want.Key

-- the reading of the code's reader
abbrev pub reading_of : Reader → Reading
reading_of r = record { frames = r.frames; keys = keys_of r.steps; want = r.want }
