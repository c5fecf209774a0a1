-- Steps of the loops over a folder's messages, and the changes that are made of them.
use Rattle.std.proofs.Common.{◌≡◌, ℕ, zero, suc, ◌+◌, ◌≤◌, ◌<◌, Bool, true, false, ◌&&◌, List, [], ◌∷◌, ◌++◌, length, take, drop, get_or, slice_get, refl, sym, ap, ◌∙◌, arith, append-nil}
use Rattle.std.specs.declared.option.Option.TheVariants.{Some}
use Rattle.std.proofs.lemmas.Bool.{cond-true, cond-false, and_from}
use Rattle.std.proofs.lemmas.List.{take_all}
use Rattle.std.proofs.lemmas.List.Sums.{prefix_len-le-length}
use Rattle.std.proofs.lemmas.Option.{slice_get_within}
use Rattle.mbox_scan.specs.Mailbox.{texts_of}
use Rattle.message_state.specs.declared.mark.Mark.{Mark}
use Rattle.message_state.specs.Stamp.{stamped, is_stamped}
use Rattle.mailx_vars.specs.Settings.{Settings}
use Rattle.quit_rules.specs.declared.fate.Fate.{Fate}
use Rattle.quit_rules.specs.declared.fate.Rules.{Rules}
use Rattle.quit_rules.specs.declared.open.Open.{Open}
use Rattle.quit_rules.specs.Fates.{rules_of, fate_of, is_staying}
use Rattle.quit_rules.specs.Plans.{IsOpen, messages_of, texts_where, is_unchanged, unchanged_len}
use Rattle.quit_rules.proofs.PlanLemmas.{text_where, texts-more, count-messages, count_where, count-texts, unchanged-go, unchanged-stop, unchanged-end, texts-whole}

same-element : {X : Type 0} (xs : List X) (k : ℕ) (d : X) → get_or xs k (get_or xs k d) ≡ get_or xs k d
same-element [] k d = refl
same-element (x ∷ xs) zero d = refl
same-element (x ∷ xs) (suc k) d = same-element xs k d

marks-within : (folder : Open) (k : ℕ) (t : List ℕ) → IsOpen folder → slice_get (texts_of folder.folder) k ≡ Some t → k < length folder.marks
marks-within folder k t same text = let within = slice_get_within (texts_of folder.folder) k t text in omega arith

-- the mark that is read stays, or doesn't
stays-as : (rules : Rules) (marks slice : List Mark) (k : ℕ) (d : Mark) (f : Fate) (b c : Bool) → slice ≡ marks → f ≡ fate_of rules (get_or slice k d).state → b ≡ is_staying f → b ≡ c
    → is_staying (fate_of rules (get_or marks k d).state) ≡ c
stays-as rules marks slice k d f b c same fated tested is =
    ap (λ (s : List Mark). is_staying (fate_of rules (get_or s k d).state)) (sym same) ∙ ap is_staying (sym fated) ∙ sym tested ∙ is

stamped-as : (marks slice : List Mark) (k : ℕ) (d : Mark) (t text : List ℕ) (l c : Bool) → slice ≡ marks → text ≡ t → l ≡ is_stamped text (get_or slice k d) → l ≡ c
    → is_stamped t (get_or marks k d) ≡ c
stamped-as marks slice k d t text l c same is noted found =
    ap (λ (s : List Mark). is_stamped t (get_or s k d)) (sym same)
    ∙ ap (λ (x : List ℕ). is_stamped x (get_or slice k d)) (sym is) ∙ sym noted ∙ found

-- one more message stays as it is
pub step-go : (rules : Rules) (folder : Open) (slice : List Mark) (k : ℕ) (t text : List ℕ) (d : Mark) (f : Fate) (b l : Bool)
    → IsOpen folder → slice ≡ folder.marks → slice_get (texts_of folder.folder) k ≡ Some t → text ≡ t
    → f ≡ fate_of rules (get_or slice k d).state → b ≡ is_staying f → l ≡ is_stamped text (get_or slice k d)
    → unchanged_len rules (messages_of folder) ≡ k + unchanged_len rules (drop k (messages_of folder)) → b ≡ true → l ≡ true
    → unchanged_len rules (messages_of folder) ≡ k + 1 + unchanged_len rules (drop (k + 1) (messages_of folder))
step-go rules folder slice k t text d f b l valid same there is fated tested noted walked stays has =
    unchanged-go rules (texts_of folder.folder) folder.marks k t (get_or folder.marks k d) there (marks-within folder k t valid there) (same-element folder.marks k d) valid walked
    (and_from _ _ (stays-as rules folder.marks slice k d f b true same fated tested stays) (stamped-as folder.marks slice k d t text l true same is noted has))

-- the first message that doesn't
pub step-leaves : (rules : Rules) (folder : Open) (slice : List Mark) (k : ℕ) (t : List ℕ) (d : Mark) (f : Fate) (b : Bool)
    → IsOpen folder → slice ≡ folder.marks → slice_get (texts_of folder.folder) k ≡ Some t
    → f ≡ fate_of rules (get_or slice k d).state → b ≡ is_staying f
    → unchanged_len rules (messages_of folder) ≡ k + unchanged_len rules (drop k (messages_of folder)) → b ≡ false
    → k ≡ unchanged_len rules (messages_of folder)
step-leaves rules folder slice k t d f b valid same there fated tested walked leaves =
    unchanged-stop rules (texts_of folder.folder) folder.marks k t (get_or folder.marks k d) there (marks-within folder k t valid there) (same-element folder.marks k d) valid walked
    (ap (λ (x : Bool). x && is_stamped t (get_or folder.marks k d)) (stays-as rules folder.marks slice k d f b false same fated tested leaves))

pub step-stamps : (rules : Rules) (folder : Open) (slice : List Mark) (k : ℕ) (t text : List ℕ) (d : Mark) (f : Fate) (b l : Bool)
    → IsOpen folder → slice ≡ folder.marks → slice_get (texts_of folder.folder) k ≡ Some t → text ≡ t
    → f ≡ fate_of rules (get_or slice k d).state → b ≡ is_staying f → l ≡ is_stamped text (get_or slice k d)
    → unchanged_len rules (messages_of folder) ≡ k + unchanged_len rules (drop k (messages_of folder)) → b ≡ true → l ≡ false
    → k ≡ unchanged_len rules (messages_of folder)
step-stamps rules folder slice k t text d f b l valid same there is fated tested noted walked stays has =
    unchanged-stop rules (texts_of folder.folder) folder.marks k t (get_or folder.marks k d) there (marks-within folder k t valid there) (same-element folder.marks k d) valid walked
    (λ j. stays-as rules folder.marks slice k d f b true same fated tested stays j && stamped-as folder.marks slice k d t text l false same is noted has j)

-- all messages stay as they are
pub step-end : (rules : Rules) (folder : Open) (slice : List Mark) (k count : ℕ) → IsOpen folder → slice ≡ folder.marks → count ≡ length (texts_of folder.folder) → count ≤ k → k ≤ count
    → unchanged_len rules (messages_of folder) ≡ k + unchanged_len rules (drop k (messages_of folder)) → length slice ≡ unchanged_len rules (messages_of folder)
step-end rules folder slice k count valid same counted past within walked =
    let e = unchanged-end rules (texts_of folder.folder) folder.marks k valid (omega arith) walked in
    let n : length slice ≡ length folder.marks = ap length same in
    omega arith

pub front-within : (rules : Rules) (folder : Open) (k : ℕ) → IsOpen folder → k ≡ unchanged_len rules (messages_of folder) → k ≤ length (texts_of folder.folder)
front-within rules folder k valid is =
    let few = prefix_len-le-length (is_unchanged rules) (messages_of folder) in
    let all = count-messages (texts_of folder.folder) folder.marks valid in
    omega arith

-- ---- the two lists
parts-texts : (passes : Fate → Bool) (rules : Rules) (folder : Open) (slice : List Mark) (k : ℕ) (t : List ℕ) (d : Mark)
    → IsOpen folder → slice ≡ folder.marks → slice_get (texts_of folder.folder) k ≡ Some t
    → texts_where passes rules (take (k + 1) (messages_of folder)) ≡ texts_where passes rules (take k (messages_of folder)) ++ text_where passes rules (t, get_or slice k d)
parts-texts passes rules folder slice k t d valid same there =
    let within = slice_get_within (texts_of folder.folder) k t there in
    let all = count-messages (texts_of folder.folder) folder.marks valid in
    texts-more passes rules (texts_of folder.folder) folder.marks k t (get_or folder.marks k d) there (marks-within folder k t valid there) (same-element folder.marks k d) (omega arith)
    ∙ ap (λ (s : List Mark). texts_where passes rules (take k (messages_of folder)) ++ text_where passes rules (t, get_or s k d)) (sym same)

-- one more text in a list
pub part-more : (passes : Fate → Bool) (rules : Rules) (folder : Open) (slice : List Mark) (k : ℕ) (t text : List ℕ) (d : Mark) (f : Fate) (x : List ℕ) (before after : List (List ℕ))
    → IsOpen folder → slice ≡ folder.marks → slice_get (texts_of folder.folder) k ≡ Some t → text ≡ t
    → f ≡ fate_of rules (get_or slice k d).state → passes f ≡ true → x ≡ stamped text (get_or slice k d)
    → before ≡ texts_where passes rules (take k (messages_of folder)) → after ≡ before ++ x ∷ []
    → after ≡ texts_where passes rules (take (k + 1) (messages_of folder))
part-more passes rules folder slice k t text d f x before after valid same there is fated pass made walked grown =
    grown ∙ ap (λ (l : List (List ℕ)). l ++ x ∷ []) walked
    ∙ ap (λ (y : List ℕ). texts_where passes rules (take k (messages_of folder)) ++ y ∷ []) (made ∙ ap (λ (y : List ℕ). stamped y (get_or slice k d)) is)
    ∙ ap (λ (l : List (List ℕ)). texts_where passes rules (take k (messages_of folder)) ++ l) (sym (cond-true _ _ _ (ap passes (sym fated) ∙ pass)))
    ∙ sym (parts-texts passes rules folder slice k t d valid same there)

-- a message that passes no test leaves the texts that a list names
pub part-same : (passes : Fate → Bool) (rules : Rules) (folder : Open) (slice : List Mark) (k : ℕ) (t : List ℕ) (d : Mark) (f : Fate) (before after : List (List ℕ))
    → IsOpen folder → slice ≡ folder.marks → slice_get (texts_of folder.folder) k ≡ Some t
    → f ≡ fate_of rules (get_or slice k d).state → passes f ≡ false
    → before ≡ texts_where passes rules (take k (messages_of folder)) → after ≡ before
    → after ≡ texts_where passes rules (take (k + 1) (messages_of folder))
part-same passes rules folder slice k t d f before after valid same there fated pass walked kept =
    kept ∙ walked ∙ sym (append-nil (texts_where passes rules (take k (messages_of folder))))
    ∙ ap (λ (l : List (List ℕ)). texts_where passes rules (take k (messages_of folder)) ++ l) (sym (cond-false _ _ _ (ap passes (sym fated) ∙ pass)))
    ∙ sym (parts-texts passes rules folder slice k t d valid same there)

pub part-whole : (passes : Fate → Bool) (rules : Rules) (folder : Open) (k count : ℕ) (l : List (List ℕ)) → IsOpen folder → count ≡ length (texts_of folder.folder) → count ≤ k
    → l ≡ texts_where passes rules (take k (messages_of folder)) → l ≡ texts_where passes rules (messages_of folder)
part-whole passes rules folder k count l valid counted past walked = walked ∙ texts-whole passes rules (texts_of folder.folder) folder.marks k valid (omega arith)

-- ---- how many
pub counted : (passes : Fate → Bool) (rules : Rules) (folder : Open) (vars : Settings) (slice : List Mark) (index n : ℕ)
    → IsOpen folder → rules ≡ rules_of folder vars → slice ≡ folder.marks → length slice ≤ index → n ≡ count_where passes rules (take index slice)
    → n ≡ length (texts_where passes (rules_of folder vars) (messages_of folder))
counted passes rules folder vars slice index n valid are same past walked =
    walked ∙ ap (count_where passes rules) (take_all index slice past ∙ same)
    ∙ ap (λ (r : Rules). count_where passes r folder.marks) are ∙ count-texts passes (rules_of folder vars) (texts_of folder.folder) folder.marks valid
