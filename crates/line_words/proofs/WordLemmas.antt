-- Each step of the cut keeps what the line gives.
use Rattle.std.proofs.Common.{◌≡◌, ℕ, suc, ◌+◌, ◌-◌, ◌≤◌, ◌==◌, ◌&&◌, Bool, true, false, List, [], ◌∷◌, ◌++◌, Option, Some, None, cond, refl, sym, ap, subst, ◌∙◌, append_assoc, append-nil, arith}
use Rattle.std.specs.Prelude.{if◌then◌else◌}
use Rattle.std.specs.Option.{option_map}
use Rattle.std.specs.List.{onto_first}
use Rattle.line_words.specs.declared.cut.Place.{Place}
use Rattle.line_words.specs.declared.cut.Place.TheVariants.{Between, Word, Escaped, Quoted, Enclosed, InString, Taken}
use Rattle.line_words.specs.declared.cut.Act.{Act}
use Rattle.line_words.specs.declared.cut.Act.TheVariants.{Pass, Keep, End}
use Rattle.line_words.specs.declared.cut.Step.{Step}
use Rattle.line_words.specs.Words.{is_quote}
use Rattle.mail_text.specs.Ascii.{is_blank}
use Rattle.line_words.specs.Cutting.{unquoted_step, first_step, enclosed_after, string_after, depth_of, step_of, unquoted, words_from, joined, resumed, gives, IsReady}

abbrev pub Words : Type 0
Words = List (List ℕ)

-- two choices by one test
pub choose : {X Y O : Type 0} (t : Bool) (F : X → O) (G : Y → O) (a b : X) (c d : Y) → F a ≡ G c → F b ≡ G d → F (cond t a b) ≡ G (cond t c d)
choose true F G a b c d one other = one
choose false F G a b c d one other = other

chosen : {Y : Type 0} (t : Bool) (P : Y → Type 0) (c d : Y) → P c → P d → P (cond t c d)
chosen true P c d one other = one
chosen false P c d one other = other

pub map-same : {X Y : Type 0} (f g : X → Y) → ((x : X) → f x ≡ g x) → (o : Option X) → option_map f o ≡ option_map g o
map-same f g same None = refl
map-same f g same (Some x) = ap (λ y. Some y) (same x)

pub map-id : {X : Type 0} (o : Option (List X)) → option_map (λ left. [] ++ left) o ≡ o
map-id None = refl
map-id (Some x) = refl

pub map-map : {X Y Z : Type 0} (f : X → Y) (g : Y → Z) (h : X → Z) → ((x : X) → g (f x) ≡ h x) → (o : Option X) → option_map g (option_map f o) ≡ option_map h o
map-map f g h same None = refl
map-map f g h same (Some x) = ap (λ y. Some y) (same x)

-- a byte of a word may be counted to its front
pub onto_front : (word : List ℕ) (b : ℕ) (words : Words) → joined word (onto_first b words) ≡ joined (word ++ b ∷ []) words
onto_front word b [] = refl
onto_front word b (rest ∷ words) = ap (λ (w : List ℕ). w ∷ words) (sym (append_assoc word (b ∷ []) rest))

onto_none : (b : ℕ) (words : Words) → joined [] (onto_first b words) ≡ onto_first b words
onto_none b [] = refl
onto_none b (rest ∷ words) = refl

-- inside a word there is a first word left
abbrev pub HasFirst : Option Words → Type 0
HasFirst o = option_map (joined []) o ≡ o

first-onto : (b : ℕ) (o : Option Words) → HasFirst (option_map (onto_first b) o)
first-onto b o = map-map (onto_first b) (joined []) (onto_first b) (onto_none b) o

first-empty : (o : Option Words) → HasFirst (option_map (λ words. [] ∷ words) o)
first-empty o = map-map (λ (words : Words). [] ∷ words) (joined []) (λ (words : Words). [] ∷ words) (λ words. refl) o

has_first-unquoted : (b : ℕ) (later : Place → Option Words) → HasFirst (later (Quoted b)) → HasFirst (later Escaped) → HasFirst (unquoted b later)
has_first-unquoted b later quoted escaped =
    chosen (is_quote b) HasFirst _ _ quoted (chosen (b == 92) HasFirst _ _ escaped (first-onto b (later Word)))

pub has_first : (lists : Bool) (bs : List ℕ) → HasFirst (words_from lists Word bs) × HasFirst (words_from lists Escaped bs) × ((q : ℕ) → HasFirst (words_from lists (Quoted q) bs))
unfolding words_from
has_first lists [] = (refl, refl, λ q. refl)
has_first lists (b ∷ bs) =
    let later = has_first lists bs in (
      chosen (is_blank b) HasFirst _ _ (first-empty (words_from lists Between bs)) (has_first-unquoted b (λ place. words_from lists place bs) (later.2 b) later.1),
      first-onto b (words_from lists Word bs),
      λ q. chosen (b == q) HasFirst _ _ later.0 (first-onto b (words_from lists (Quoted q) bs)),
    )

-- what is given after a step
abbrev pub given : Bool → Act → Place → Words → List ℕ → ℕ → List ℕ → Option Words
given lists Pass place words word b bs = gives lists place words word bs
given lists Keep place words word b bs = gives lists place words (word ++ b ∷ []) bs
given lists End place words word b bs = gives lists place (words ++ word ∷ []) [] bs

abbrev pub after : Bool → Step → Words → List ℕ → ℕ → List ℕ → Option Words
after lists step words word b bs = given lists step.act step.place words word b bs

-- a byte that is kept
kept : (words : Words) (word : List ℕ) (b : ℕ) (o : Option Words)
    → option_map (λ left. words ++ joined word left) (option_map (onto_first b) o) ≡ option_map (λ left. words ++ joined (word ++ b ∷ []) left) o
kept words word b o = map-map (onto_first b) (λ left. words ++ joined word left) _ (λ left. ap (λ (ws : Words). words ++ ws) (onto_front word b left)) o

-- the first byte of a word
begun : (words : Words) (b : ℕ) (o : Option Words) → option_map (λ left. words ++ left) (option_map (onto_first b) o) ≡ option_map (λ left. words ++ joined (b ∷ []) left) o
begun words b o = map-map (onto_first b) (λ left. words ++ left) _ (λ left. ap (λ (ws : Words). words ++ ws) (sym (onto_none b left) ∙ onto_front [] b left)) o

-- a quote or a backslash at the front of a word
opened : (words : Words) (o : Option Words) → HasFirst o → option_map (λ left. words ++ left) o ≡ option_map (λ left. words ++ joined [] left) o
opened words o first = ap (option_map (λ left. words ++ left)) (sym first) ∙ map-map (joined []) (λ left. words ++ left) _ (λ left. refl) o

-- the end of a word
word_ended : (words : Words) (word : List ℕ) (o : Option Words)
    → option_map (λ left. words ++ joined word left) (option_map (λ left. [] ∷ left) o) ≡ option_map (λ left. (words ++ word ∷ []) ++ left) o
word_ended words word o =
    map-map (λ (left : Words). [] ∷ left) (λ left. words ++ joined word left) _
    (λ left. ap (λ (w : List ℕ). words ++ w ∷ left) (append-nil word) ∙ sym (append_assoc words (word ∷ []) left)) o

step_between : (lists : Bool) (words : Words) (b : ℕ) (bs : List ℕ) → gives lists Between words [] (b ∷ bs) ≡ after lists (step_of lists Between b) words [] b bs
unfolding words_from
step_between lists words b bs =
    let F = λ (o : Option Words). option_map (λ left. words ++ left) o in
    let G = λ (s : Step). after lists s words [] b bs in
    let first = has_first lists bs in
    choose (is_blank b) F G _ _ _ _ refl
    (choose (b == 40 && lists) F G _ _ _ _ (begun words b _)
    (choose (is_quote b) F G _ _ _ _ (opened words _ (first.2 b))
    (choose (b == 92) F G _ _ _ _ (opened words _ first.1) (begun words b _))))

step_word : (lists : Bool) (words : Words) (word : List ℕ) (b : ℕ) (bs : List ℕ) → gives lists Word words word (b ∷ bs) ≡ after lists (step_of lists Word b) words word b bs
unfolding words_from
step_word lists words word b bs =
    let F = λ (o : Option Words). option_map (λ left. words ++ joined word left) o in
    let G = λ (s : Step). after lists s words word b bs in
    choose (is_blank b) F G _ _ _ _ (word_ended words word _)
    (choose (is_quote b) F G _ _ _ _ refl
    (choose (b == 92) F G _ _ _ _ refl (kept words word b _)))

step_escaped : (lists : Bool) (words : Words) (word : List ℕ) (b : ℕ) (bs : List ℕ) → gives lists Escaped words word (b ∷ bs) ≡ after lists (step_of lists Escaped b) words word b bs
unfolding words_from
step_escaped lists words word b bs = kept words word b _

step_quoted : (lists : Bool) (q : ℕ) (words : Words) (word : List ℕ) (b : ℕ) (bs : List ℕ) → gives lists (Quoted q) words word (b ∷ bs) ≡ after lists (step_of lists (Quoted q) b) words word b bs
unfolding words_from
step_quoted lists q words word b bs =
    let F = λ (o : Option Words). option_map (λ left. words ++ joined word left) o in
    let G = λ (s : Step). after lists s words word b bs in
    choose (b == q) F G _ _ _ _ refl (kept words word b _)

-- the place is one in a word
abbrev InWord : Place → Type 0
InWord place = (words : Words) (word : List ℕ) (left : Words) → resumed place words word left ≡ words ++ joined word left

in_word-enclosed : (more b : ℕ) → InWord (enclosed_after more b)
in_word-enclosed more b =
    chosen (b == 34) InWord _ _ (λ words word left. refl)
    (chosen (b == 40) InWord _ _ (λ words word left. refl)
    (chosen (b == 41 && more == 0) InWord _ _ (λ words word left. refl) (λ words word left. refl)))

in_word-string : (more b : ℕ) → InWord (string_after more b)
in_word-string more b =
    chosen (b == 34) InWord _ _ (λ words word left. refl)
    (chosen (b == 92) InWord _ _ (λ words word left. refl) (λ words word left. refl))

-- a byte that is kept at a place in a word
kept_at : (lists : Bool) (place : Place) (words : Words) (word : List ℕ) (b : ℕ) (bs : List ℕ) → InWord place
    → option_map (λ left. words ++ joined word left) (option_map (onto_first b) (words_from lists place bs)) ≡ gives lists place words (word ++ b ∷ []) bs
kept_at lists place words word b bs inside =
    kept words word b (words_from lists place bs)
    ∙ map-same (λ left. words ++ joined (word ++ b ∷ []) left) (resumed place words (word ++ b ∷ [])) (λ left. sym (inside words (word ++ b ∷ []) left)) (words_from lists place bs)

step_enclosed : (lists : Bool) (more : ℕ) (words : Words) (word : List ℕ) (b : ℕ) (bs : List ℕ)
    → gives lists (Enclosed more) words word (b ∷ bs) ≡ after lists (step_of lists (Enclosed more) b) words word b bs
unfolding words_from
step_enclosed lists more words word b bs = kept_at lists (enclosed_after more b) words word b bs (in_word-enclosed more b)

step_string : (lists : Bool) (more : ℕ) (words : Words) (word : List ℕ) (b : ℕ) (bs : List ℕ)
    → gives lists (InString more) words word (b ∷ bs) ≡ after lists (step_of lists (InString more) b) words word b bs
unfolding words_from
step_string lists more words word b bs = kept_at lists (string_after more b) words word b bs (in_word-string more b)

step_taken : (lists : Bool) (more : ℕ) (words : Words) (word : List ℕ) (b : ℕ) (bs : List ℕ) → gives lists (Taken more) words word (b ∷ bs) ≡ after lists (step_of lists (Taken more) b) words word b bs
unfolding words_from
step_taken lists more words word b bs = kept words word b _

-- a byte before others gives what its step gives
pub gives_step : (lists : Bool) (place : Place) (words : Words) (word : List ℕ) (b : ℕ) (bs : List ℕ) → IsReady place word
    → gives lists place words word (b ∷ bs) ≡ after lists (step_of lists place b) words word b bs
gives_step lists Between words word b bs ready =
    ap (λ (w : List ℕ). gives lists Between words w (b ∷ bs)) ready ∙ step_between lists words b bs ∙ ap (λ (w : List ℕ). after lists (step_of lists Between b) words w b bs) (sym ready)
gives_step lists Word words word b bs ready = step_word lists words word b bs
gives_step lists Escaped words word b bs ready = step_escaped lists words word b bs
gives_step lists (Quoted q) words word b bs ready = step_quoted lists q words word b bs
gives_step lists (Enclosed more) words word b bs ready = step_enclosed lists more words word b bs
gives_step lists (InString more) words word b bs ready = step_string lists more words word b bs
gives_step lists (Taken more) words word b bs ready = step_taken lists more words word b bs

-- the front of a word is ready for the next byte
abbrev pub ReadyAfter : Act → Place → List ℕ → ℕ → Type 0
ReadyAfter Pass place word b = IsReady place word
ReadyAfter Keep place word b = IsReady place (word ++ b ∷ [])
ReadyAfter End place word b = IsReady place []

ready_unquoted : (word : List ℕ) (b : ℕ) → ReadyAfter (unquoted_step b).act (unquoted_step b).place word b
ready_unquoted word b =
    let P = λ (s : Step). ReadyAfter s.act s.place word b in
    chosen (is_quote b) P _ _ tt (chosen (b == 92) P _ _ tt tt)

ready_first : (lists : Bool) (word : List ℕ) (b : ℕ) → ReadyAfter (first_step lists b).act (first_step lists b).place word b
ready_first lists word b = let P = λ (s : Step). ReadyAfter s.act s.place word b in chosen (b == 40 && lists) P _ _ tt (ready_unquoted word b)

ready_enclosed : (more b : ℕ) (word : List ℕ) → IsReady (enclosed_after more b) word
ready_enclosed more b word =
    let P = λ (p : Place). IsReady p word in
    chosen (b == 34) P _ _ tt (chosen (b == 40) P _ _ tt (chosen (b == 41 && more == 0) P _ _ tt tt))

ready_string : (more b : ℕ) (word : List ℕ) → IsReady (string_after more b) word
ready_string more b word = let P = λ (p : Place). IsReady p word in chosen (b == 34) P _ _ tt (chosen (b == 92) P _ _ tt tt)

pub ready_step : (lists : Bool) (place : Place) (word : List ℕ) (b : ℕ) → IsReady place word → ReadyAfter (step_of lists place b).act (step_of lists place b).place word b
ready_step lists Between word b ready = let P = λ (s : Step). ReadyAfter s.act s.place word b in chosen (is_blank b) P _ _ ready (ready_first lists word b)
ready_step lists Word word b ready = let P = λ (s : Step). ReadyAfter s.act s.place word b in chosen (is_blank b) P _ _ refl (ready_unquoted word b)
ready_step lists Escaped word b ready = tt
ready_step lists (Quoted q) word b ready = let P = λ (s : Step). ReadyAfter s.act s.place word b in chosen (b == q) P _ _ tt tt
ready_step lists (Enclosed more) word b ready = ready_enclosed more b (word ++ b ∷ [])
ready_step lists (InString more) word b ready = ready_string more b (word ++ b ∷ [])
ready_step lists (Taken more) word b ready = tt

-- a step opens one parenthesis more at most
abbrev IsUpTo : ℕ → Place → Type 0
IsUpTo more place = depth_of place ≤ suc more

less_one : (t : Bool) (more : ℕ) → (if t then more - 1 else more) ≤ suc more
less_one true more = omega arith
less_one false more = omega arith

depth-unquoted : (more b : ℕ) → IsUpTo more (unquoted_step b).place
depth-unquoted more b =
    let P = λ (s : Step). IsUpTo more s.place in
    chosen (is_quote b) P _ _ (omega arith) (chosen (b == 92) P _ _ (omega arith) (omega arith))

depth-enclosed : (more b : ℕ) → IsUpTo more (enclosed_after more b)
depth-enclosed more b =
    chosen (b == 34) (IsUpTo more) _ _ (omega arith)
    (chosen (b == 40) (IsUpTo more) _ _ (omega arith) (chosen (b == 41 && more == 0) (IsUpTo more) _ _ (omega arith) (less_one (b == 41) more)))

depth-string : (more b : ℕ) → IsUpTo more (string_after more b)
depth-string more b = chosen (b == 34) (IsUpTo more) _ _ (omega arith) (chosen (b == 92) (IsUpTo more) _ _ (omega arith) (omega arith))

pub depth_step : (lists : Bool) (place : Place) (b : ℕ) → depth_of (step_of lists place b).place ≤ suc (depth_of place)
depth_step lists Between b =
    let P = λ (s : Step). IsUpTo 0 s.place in chosen (is_blank b) P _ _ (omega arith) (chosen (b == 40 && lists) P _ _ (omega arith) (depth-unquoted 0 b))
depth_step lists Word b = let P = λ (s : Step). IsUpTo 0 s.place in chosen (is_blank b) P _ _ (omega arith) (depth-unquoted 0 b)
depth_step lists Escaped b = omega arith
depth_step lists (Quoted q) b = let P = λ (s : Step). IsUpTo 0 s.place in chosen (b == q) P _ _ (omega arith) (omega arith)
depth_step lists (Enclosed more) b = depth-enclosed more b
depth_step lists (InString more) b = depth-string more b
depth_step lists (Taken more) b = omega arith

-- after the step that was taken
pub depth_by : (lists : Bool) (place : Place) (b i : ℕ) (s : Step) (next : Place) → s ≡ step_of lists place b → next ≡ s.place → depth_of place ≤ i → depth_of next ≤ i + 1
depth_by lists place b i s next is next_is fits =
    let same : depth_of next ≡ depth_of (step_of lists place b).place = ap (λ (p : Place). depth_of p) next_is ∙ ap (λ (x : Step). depth_of x.place) is in
    let most = depth_step lists place b in
    omega arith

-- what is given after the step that was taken
pub given_by : (lists : Bool) (place : Place) (words : Words) (word : List ℕ) (b : ℕ) (bs : List ℕ) (all : Option Words) (s : Step) (a : Act)
    → s ≡ step_of lists place b → s.act ≡ a → IsReady place word → gives lists place words word (b ∷ bs) ≡ all → given lists a s.place words word b bs ≡ all
given_by lists place words word b bs all s a is act ready so_far =
    ap (λ (x : Act). given lists x s.place words word b bs) (sym act)
    ∙ ap (λ (x : Step). after lists x words word b bs) is
    ∙ sym (gives_step lists place words word b bs ready)
    ∙ so_far

pub ready_by : (lists : Bool) (place : Place) (word : List ℕ) (b : ℕ) (s : Step) (a : Act) → s ≡ step_of lists place b → s.act ≡ a → IsReady place word → ReadyAfter a s.place word b
ready_by lists place word b s a is act ready =
    let P : Act → Type 0 = λ x. ReadyAfter x s.place word b in
    let Q : Step → Type 0 = λ x. ReadyAfter x.act x.place word b in
    subst P act (subst Q (sym is) (ready_step lists place word b ready))

pub same_gives : (lists : Bool) (p q : Place) (ws vs : Words) (w v bs : List ℕ) → p ≡ q → ws ≡ vs → w ≡ v → gives lists p ws w bs ≡ gives lists q vs v bs
same_gives lists p q ws vs w v bs place words word =
    ap (λ (x : Place). gives lists x ws w bs) place ∙ ap (λ (x : Words). gives lists q x w bs) words ∙ ap (λ (x : List ℕ). gives lists q vs x bs) word

pub same_ready : (p q : Place) (w v : List ℕ) → p ≡ q → w ≡ v → IsReady q v → IsReady p w
same_ready p q w v place word ready =
    let P : Place → Type 0 = λ x. IsReady x w in
    let Q : List ℕ → Type 0 = λ x. IsReady q x in
    subst P (sym place) (subst Q (sym word) ready)
