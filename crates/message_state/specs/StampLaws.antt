-- What holds of every stamped text.
use Rattle.std.specs.Prelude.{◌≡◌, ℕ, true, Bool, not, ◌||◌, List, filter, Option, Some, codes}
use Rattle.std.specs.Option.{option_map}
use Rattle.mail_headers.specs.Cutting.{is_space}
use Rattle.mail_headers.specs.Field.{unfolded}
use Rattle.mail_headers.specs.Header.{Entry, from_line, entries_of, body_of}
use Rattle.message_state.specs.declared.mark.Mark.{Mark}
use Rattle.message_state.specs.Status.{raw_value, status_of, x_status_of, flags_of, mark_of}
use Rattle.message_state.specs.Stamp.{letters_of, is_flag_letter, without, stamped, is_stamped}

-- the letters of a text: the value of its first `Status` field, if there is one
abbrev pub letters_in : List ℕ → Option (List ℕ)
letters_in t = option_map unfolded (status_of t)

-- a stamped text has the letters of the mark
abbrev pub StampReads : Type 0
StampReads = (t : List ℕ) (m : Mark) → letters_in (stamped t m) ≡ Some (letters_of m)

-- and its flags
abbrev pub FlagsRead : Type 0
FlagsRead = (t : List ℕ) (m : Mark) → flags_of (stamped t m) ≡ m.flags

-- the mark of a stamped text is seen exactly if the mark is, so that it has the same letters
abbrev pub StampMarks : Type 0
StampMarks = (t : List ℕ) (m : Mark) → (mark_of (stamped t m)).seen ≡ m.seen

-- a text that is stamped twice with a mark is as it was stamped once
abbrev pub StampIsOnce : Type 0
StampIsOnce = (t : List ℕ) (m : Mark) → stamped (stamped t m) m ≡ stamped t m

-- a text is left as it is exactly if it has the letters and the flags of the mark
pub record IsLeftExactly (t : List ℕ) (m : Mark) : Type 0 where
  pub left : is_stamped t m ≡ true → stamped t m ≡ t
  pub has : stamped t m ≡ t → is_stamped t m ≡ true

abbrev pub StampedAreLeft : Type 0
StampedAreLeft = (t : List ℕ) (m : Mark) → IsLeftExactly t m

-- two texts have the same From line, the same body, and the same entries of those that are kept
pub record HasTheRest (kept : List Entry → List Entry) (t s : List ℕ) : Type 0 where
  pub from_line : from_line s ≡ from_line t
  pub entries : kept (entries_of s) ≡ kept (entries_of t)
  pub body : body_of s ≡ body_of t

-- the entries without both fields of a mark
abbrev pub without_marks : List Entry → List Entry
without_marks es = without (codes "X-Status") (without (codes "Status") es)

-- nothing but `Status` and `X-Status` fields differs in a stamped text
abbrev pub StampKeepsTheRest : Type 0
StampKeepsTheRest = (t : List ℕ) (m : Mark) → HasTheRest without_marks t (stamped t m)

-- nothing but `Status` fields differs if the text has the flags of the mark
abbrev pub StampKeepsFlags : Type 0
StampKeepsFlags = (t : List ℕ) (m : Mark) → flags_of t ≡ m.flags → HasTheRest (without (codes "Status")) t (stamped t m)

-- nothing but `X-Status` fields differs if it has the letters of the mark
abbrev pub StampKeepsLetters : Type 0
StampKeepsLetters = (t : List ℕ) (m : Mark) → letters_in t ≡ Some (letters_of m) → HasTheRest (without (codes "X-Status")) t (stamped t m)

-- a byte that other programs put into a field: no letter of ours, no blank and no line feed
abbrev pub is_foreign : ℕ → Bool
is_foreign b = not (is_flag_letter b || is_space b)

-- such bytes of the first `X-Status` field of a text
abbrev pub foreign_letters : List ℕ → List ℕ
foreign_letters t = filter is_foreign (raw_value (x_status_of t))

-- they stay, in their order
abbrev pub StampKeepsOthers : Type 0
StampKeepsOthers = (t : List ℕ) (m : Mark) → foreign_letters (stamped t m) ≡ foreign_letters t
