-- A word meets spellings of one command at most, and the other laws of the spellings.
use Rattle.std.proofs.Common.{◌≡◌, ℕ, zero, suc, ◌<◌, Bool, true, false, not, ◌==◌, ◌&&◌, ◌||◌, List, [], ◌∷◌, ◌++◌, length, drop, get_or, Option, Some, None, refl, sym, ap, ◌∙◌, ⊎_elim, arith, append_assoc}
use Rattle.std.specs.Ordering.{nat_cmp}
use Rattle.std.specs.Cmp.Lexicographic.{slice_cmp}
use Rattle.std.specs.Ordering.{is_lt}
use Rattle.std.specs.declared.cmp.Ordering.{Ordering}
use Rattle.std.specs.declared.cmp.Ordering.TheVariants.{Less, Equal, Greater}
use Rattle.std.specs.Option.{option_map}
use Rattle.std.specs.List.{Contains, AllPairs, list_all, find, starts_with}
use Rattle.std.proofs.lemmas.Bool.{cond-true, cond-false, cases_Bool, and_parts, false≢true}
use Rattle.std.proofs.lemmas.Bool.Decides.{Decides-eqb}
use Rattle.std.proofs.lemmas.Slice.Eq.{starts_is}
use denote.Enum.Bare.{sameb, same_true}
use Rattle.line_words.specs.declared.command.Command.{Command}
use Rattle.line_words.specs.contracts.command.Command.{the_type}
use Rattle.line_words.specs.Spellings.{Spelling, spellings, is_met, spelling_of, command_of, names}
use Rattle.line_words.specs.Laws.{Names, NamesOne, SpellingsName, NamesAscend}

-- ---- fronts

-- what begins with a front is the front and more, and the other way round
begins : (xs front : List ℕ) → starts_with (◌==◌) xs front ≡ true → xs ≡ front ++ drop (length front) xs
begins xs front h = (starts_is Decides-eqb xs front _ refl).0 h

begins_so : (xs front rest : List ℕ) → xs ≡ front ++ rest → starts_with (◌==◌) xs front ≡ true
begins_so xs front rest is = (starts_is Decides-eqb xs front _ refl).1 rest is

-- ---- no two spellings of different commands are met by one word

-- a word may meet both: each begins with what the other must begin with
clash : Spelling → Spelling → Bool
clash a b = starts_with (◌==◌) a.whole b.least && starts_with (◌==◌) b.whole a.least

fits : Spelling → Spelling → Bool
fits a b = not (clash a b) || sameb the_type a.command b.command

all_fit : list_all (λ a. list_all (fits a) spellings) spellings ≡ true
unfolding spellings clash fits
all_fit = refl

-- a test of all elements holds of each
all_at : {X : Type 0} (p : X → Bool) (xs : List X) (x : X) → list_all p xs ≡ true → Contains xs x → p x ≡ true
all_at p [] x all (k, lt, is) = absurd (omega arith)
all_at p (y ∷ ys) x all (zero, lt, is) = ap p (sym is) ∙ (and_parts _ _ all).0
all_at p (y ∷ ys) x all (suc k, lt, is) = all_at p ys x (and_parts _ _ all).1 (k, omega arith, is)

fit : (a b : Spelling) → Contains spellings a → Contains spellings b → fits a b ≡ true
fit a b in_a in_b = all_at (fits a) spellings b (all_at (λ x. list_all (fits x) spellings) spellings a all_fit in_a) in_b

-- the front of a word that meets a spelling stands at the front of the whole name
front_of_whole : (word : List ℕ) (a b : Spelling) → is_met word a ≡ true → is_met word b ≡ true → starts_with (◌==◌) b.whole a.least ≡ true
front_of_whole word a b met_a met_b =
    let in_word = begins word a.least (and_parts _ _ met_a).0 in
    let in_whole = begins b.whole word (and_parts _ _ met_b).1 in
    begins_so b.whole a.least (drop (length a.least) word ++ drop (length word) b.whole)
    (in_whole ∙ ap (λ (w : List ℕ). w ++ drop (length word) b.whole) in_word ∙ append_assoc a.least (drop (length a.least) word) (drop (length word) b.whole))

and_true : (a b : Bool) → a ≡ true → b ≡ true → (a && b) ≡ true
and_true true b one other = other
and_true false b one other = absurd (false≢true one)

or_right : (a b : Bool) → (not a || b) ≡ true → a ≡ true → b ≡ true
or_right true b either one = either
or_right false b either one = absurd (false≢true one)

one_command : (word : List ℕ) (a b : Spelling) → Contains spellings a → Contains spellings b → is_met word a ≡ true → is_met word b ≡ true → a.command ≡ b.command
unfolding clash fits
one_command word a b in_a in_b met_a met_b =
    let both = and_true _ _ (front_of_whole word b a met_b met_a) (front_of_whole word a b met_a met_b) in
    same_true the_type tt a.command b.command (or_right (clash a b) (sameb the_type a.command b.command) (fit a b in_a in_b) both)

-- ---- what is found

record IsFound (p : Spelling → Bool) (xs : List Spelling) (x : Spelling) : Type 0 where
  among : Contains xs x
  passes : p x ≡ true

later : (y : Spelling) (ys : List Spelling) (x : Spelling) → Contains ys x → Contains (y ∷ ys) x
later y ys x (k, lt, is) = (suc k, omega arith, is)

found : (p : Spelling → Bool) (xs : List Spelling) (x : Spelling) → find p xs ≡ Some x → IsFound p xs x
found p [] x h = absurd (cc)
found p (y ∷ ys) x h =
    ⊎_elim
    (λ t. let same : Some y ≡ Some x = sym (cond-true _ _ _ t) ∙ h in
    let is : y ≡ x = cc in
    record { among = (0, omega arith, is); passes = ap p (sym is) ∙ t })
    (λ e. let behind = found p ys x (sym (cond-false _ _ _ e) ∙ h) in record { among = later y ys x behind.among; passes = behind.passes })
    (cases_Bool (p y))

finds : (p : Spelling → Bool) (xs : List Spelling) (x : Spelling) → Contains xs x → p x ≡ true → (y : Spelling) × (find p xs ≡ Some y)
finds p [] x (k, lt, is) passes = absurd (omega arith)
finds p (y ∷ ys) x (zero, lt, is) passes = (y, cond-true _ _ _ (ap p is ∙ passes))
finds p (y ∷ ys) x (suc k, lt, is) passes =
    let behind = finds p ys x (k, omega arith, is) passes in
    ⊎_elim (λ t. (y, cond-true _ _ _ t)) (λ e. (behind.0, cond-false _ _ _ e ∙ behind.1)) (cases_Bool (p y))

command_found : (o : Option Spelling) (named : Command) → option_map (λ s. s.command) o ≡ Some named → (s : Spelling) × (o ≡ Some s) × (s.command ≡ named)
command_found None named h = absurd (cc)
command_found (Some s) named h = (s, refl, cc)

names_from : (word : List ℕ) (named : Command) → command_of word ≡ Some named → Names word named
names_from word named h =
    let s = command_found (spelling_of word) named h in
    let is = found (is_met word) spellings s.0 s.1 in
    (s.0, is.among, is.passes, s.2)

named_by : (word : List ℕ) (s : Spelling) → Contains spellings s → is_met word s ≡ true → command_of word ≡ Some s.command
named_by word s among met =
    let first = finds (is_met word) spellings s among met in
    let is = found (is_met word) spellings first.0 first.1 in
    ap (option_map (λ x. x.command)) first.1 ∙ ap (λ (x : Command). Some x) (one_command word first.0 s is.among among is.passes met)

pub names_one : NamesOne
names_one word named = (names_from word named, λ (s, among, met, is). named_by word s among met ∙ ap (λ (x : Command). Some x) is)

-- ---- the least and the whole name

names_itself : Spelling → Bool
names_itself s = is_met s.least s && is_met s.whole s

all_name : list_all names_itself spellings ≡ true
unfolding spellings names_itself
all_name = refl

pub spellings_name : SpellingsName
unfolding names_itself
spellings_name s among =
    let both = and_parts _ _ (all_at names_itself spellings s all_name among) in
    (named_by s.least s among both.0, named_by s.whole s among both.1)

-- ---- the order of the names

abbrev ascends : List (List ℕ) → Bool
ascends [] = true
ascends (x ∷ xs) = list_all (λ y. is_lt (slice_cmp nat_cmp x y)) xs && ascends xs

all_ascend : ascends names ≡ true
unfolding spellings
all_ascend = refl

is_less : (o : Ordering) → is_lt o ≡ true → o ≡ Less
is_less Less h = refl
is_less Equal h = absurd (false≢true h)
is_less Greater h = absurd (false≢true h)

get_or-any : (xs : List (List ℕ)) (k : ℕ) (c d : List ℕ) → k < length xs → get_or xs k c ≡ get_or xs k d
get_or-any [] k c d lt = absurd (omega arith)
get_or-any (x ∷ xs) zero c d lt = refl
get_or-any (x ∷ xs) (suc k) c d lt = get_or-any xs k c d (omega arith)

ascending : (xs : List (List ℕ)) → ascends xs ≡ true → AllPairs (λ a b. slice_cmp nat_cmp a b ≡ Less) xs
ascending [] up i j d before within = absurd (omega arith)
ascending (x ∷ xs) up i zero d before within = absurd (omega arith)
ascending (x ∷ xs) up zero (suc j) d before within =
    is_less _ (all_at (λ y. is_lt (slice_cmp nat_cmp x y)) xs (get_or xs j d) (and_parts _ _ up).0 (j, omega arith, get_or-any xs j _ d (omega arith)))
ascending (x ∷ xs) up (suc i) (suc j) d before within = ascending xs (and_parts _ _ up).1 i j d (omega arith) (omega arith)

pub names_ascend : NamesAscend
names_ascend = ascending names all_ascend
