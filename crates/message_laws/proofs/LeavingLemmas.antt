-- What becomes of a message when the folder is left.
use Rattle.std.proofs.Common.{◌≡◌, ◌≢◌, ◌⊎◌, ℕ, zero, suc, ◌<◌, Bool, true, false, List, [], ◌∷◌, ◌++◌, Option, Some, None, length, get_or, ◌==◌, refl, sym, ap, subst, inl, inr, ◌∙◌, append_assoc, arith}
use Rattle.std.specs.Prelude.{codes, All, if◌then◌else◌}
use Rattle.std.specs.List.{Contains, slice_get, zip}
use Rattle.std.proofs.lemmas.Bool.{cases_Bool, cond-true, cond-false, eqb-true}
use Rattle.std.proofs.lemmas.List.{map-append}
use Rattle.std.proofs.lemmas.List.Elements.{All-nil, All-cons, All-append, Contains-append_left, Contains-append_right, Contains-append_cases}
use Rattle.mbox_scan.specs.Mailbox.{is_mailbox, texts_of}
use Rattle.mbox_scan.proofs.MailboxLemmas.{texts_of-proper}
use Rattle.message_state.specs.declared.mark.Mark.{Mark}
use Rattle.message_state.proofs.StampLawLemmas.{stamp-rest}
use Rattle.mailx_vars.specs.Settings.{Settings, is_set}
use Rattle.folder_change.specs.declared.change.Change.{Change}
use Rattle.folder_change.specs.declared.change.Change.TheVariants.{Rewrite}
use Rattle.folder_change.specs.Apply.{Files, after, apply}
use Rattle.folder_change.specs.ListLaws.{list_of_file}
use Rattle.folder_change.proofs.ApplyLemmas.{after-other, apply-append}
use Rattle.commit_machine.proofs.records.Same.{same_or_not}
use Rattle.session_play.specs.Committing.{Commit}
use Rattle.quit_rules.specs.declared.open.Open.{Open}
use Rattle.quit_rules.specs.declared.gathered.BatchItem.{BatchItem}
use Rattle.quit_rules.specs.declared.gathered.Payload.{Payload}
use Rattle.quit_rules.specs.declared.gathered.Payload.TheVariants.{Texts, Bytes}
use Rattle.quit_rules.specs.Gathering.{change_of, gathered_changes, put}
use Rattle.quit_rules.specs.Plans.{Message, boxed, folder_changes, mbox_change, mbox_changes, messages_of, same_texts, stamped_text, staying}
use Rattle.quit_rules.specs.QuitLaws.{is_given_up}
use Rattle.quit_rules.proofs.QuitLawLemmas.{each-stands}
use Rattle.filing_laws.proofs.Places.{cons_there}
use Rattle.filing_laws.proofs.LeavingLemmas.{one_change}
use Rattle.session_state.specs.declared.state.SessionState.{SessionState}
use Rattle.session_state.specs.Placing.{placed, placed_change, placed_changes}
use Rattle.mailx_top.specs.Quits.{folder_file}
use Rattle.mailx_top.proofs.QuitLemmas.{staying-proper}
use Rattle.run_laws.specs.Keeping.{mbox_file, IsPut, further, added, fronted}
use Rattle.message_laws.specs.Messages.{IsSame, Stands, Leaves, IsMessageLeft, PutsOther, IsTaken, given_up, unboxed, overlaid, unmarked, GoesToMbox}
use Rattle.message_laws.proofs.ChangeLemmas.{head_there, same_then, apply_none, rewrites, IsPlain, plain_for, plainly, stands_plainly}

-- ---- what stands before the change of the folder rewrites nothing
put_plain : (here name : List ℕ) (what : Payload) → IsPlain (placed_change here (put name what))
put_plain here name (Texts texts) = refl
put_plain here name (Bytes bytes) = refl

gathered_plain : (here : List ℕ) (gathered : List BatchItem) → All IsPlain (placed_changes here (gathered_changes gathered))
gathered_plain here [] = All-nil IsPlain
gathered_plain here (one ∷ more) =
    All-cons IsPlain (placed_change here (change_of one)) (placed_changes here (gathered_changes more)) (put_plain here one.name one.what) (gathered_plain here more)

box_plain : (here mbox : List ℕ) (texts : List (List ℕ)) (append : Bool) → IsPlain (placed_change here (mbox_change mbox texts append))
box_plain here mbox texts true = refl
box_plain here mbox texts false = refl

boxing_plain : (here mbox : List ℕ) (texts : List (List ℕ)) (vars : Settings) → All IsPlain (placed_changes here (mbox_changes texts vars mbox))
boxing_plain here mbox texts vars = go (length texts == 0)
  where
    append : Bool
    append = is_set vars (codes "append")

    go : (none : Bool) → All IsPlain (placed_changes here (if none then [] else mbox_change mbox texts append ∷ []))
    go true = All-nil IsPlain
    go false = All-cons IsPlain (placed_change here (mbox_change mbox texts append)) [] (box_plain here mbox texts append) (All-nil IsPlain)

-- a text that goes to mbox is put there
put_in_box : (here mbox : List ℕ) (texts : List (List ℕ)) (text : List ℕ) (append : Bool) → Contains texts text
    → IsPut (placed here mbox) text (placed_change here (mbox_change mbox texts append) ∷ [])
put_in_box here mbox texts text true at = added at
put_in_box here mbox texts text false at = fronted at

put_boxed : (here mbox : List ℕ) (texts : List (List ℕ)) (vars : Settings) (text : List ℕ) → Contains texts text
    → IsPut (placed here mbox) text (placed_changes here (mbox_changes texts vars mbox))
put_boxed here mbox texts vars text at = go (length texts == 0) refl
  where
    append : Bool
    append = is_set vars (codes "append")

    go : (none : Bool) → (length texts == 0) ≡ none → IsPut (placed here mbox) text (placed_changes here (if none then [] else mbox_change mbox texts append ∷ []))
    go true none = absurd (let empty = eqb-true (length texts) 0 none in let within = at.1 in omega (arith, empty, within))
    go false some = put_in_box here mbox texts text append at

put_behind : (n text : List ℕ) (xs ys : List Change) → IsPut n text ys → IsPut n text (xs ++ ys)
put_behind n text [] ys put = put
put_behind n text (x ∷ xs) ys put = further (put_behind n text xs ys put)

-- ---- the element at a place
at_place : (xs : List (List ℕ)) (k : ℕ) (x : List ℕ) → k < length xs → get_or xs k x ≡ x → slice_get xs k ≡ Some x
at_place [] k x within is = absurd (omega arith)
at_place (y ∷ ys) zero x within is = ap Some is
at_place (y ∷ ys) (suc k) x within is = at_place ys k x (omega arith) is

-- ---- the message of a text of the folder, if there is a mark for it
abbrev Found : List (List ℕ) → List Mark → List ℕ → Type 0
Found texts marks text =
    ((m : Message) × Contains (zip texts marks) m × (m.0 ≡ text)) ⊎ ((k : ℕ) × (slice_get texts k ≡ Some text) × (slice_get marks k ≡ None))

message_at : (texts : List (List ℕ)) (marks : List Mark) (text : List ℕ) → Contains texts text → Found texts marks text
message_at texts marks text at = go texts marks at.0 at.1 at.2
  where
    go : (texts : List (List ℕ)) (marks : List Mark) (k : ℕ) → k < length texts → get_or texts k text ≡ text → Found texts marks text
    go [] marks k within is = absurd (omega arith)
    go (t ∷ ts) [] k within is = inr (k, at_place (t ∷ ts) k text within is, refl)
    go (t ∷ ts) (m ∷ ms) zero within is = inl ((t, m), head_there (t, m) (zip ts ms), is)
    go (t ∷ ts) (m ∷ ms) (suc k) within is = elim (go ts ms k (omega arith) is) [
      | inl found ↦ inl (found.0, cons_there (t, m) found.0 (zip ts ms) found.1, found.2)
      | inr none ↦ inr (suc none.0, none.1, none.2)
    ]

other_front : (n : List ℕ) (xs ys : List Change) → PutsOther n xs → PutsOther n (xs ++ ys)
other_front n xs ys (change, at, name, other) = (change, Contains-append_left xs ys change at, name, other)

-- What a commit makes of a message that stood in a file: it stands there, or in mbox, or it was taken away.
abbrev pub Becomes : Files → Commit → List ℕ → List ℕ → Type 0
Becomes files c n text =
    Stands (apply c.changes c.base files) n text ⊎ (((mbox : List ℕ) × GoesToMbox c mbox text × Stands (apply c.changes c.base files) mbox text) ⊎ IsTaken files c n text)

module _ (s : SessionState) (c : Commit) (leaves : Leaves s c) (read : is_mailbox s.desk.folder.folder ≡ true) (files : Files) (n text : List ℕ) where
  abbrev folder : Open
  folder = s.desk.folder

  abbrev vars : Settings
  vars = s.desk.vars

  abbrev base : List (List ℕ)
  base = texts_of folder.folder

  abbrev list : List (List ℕ)
  list = staying folder vars

  abbrev boxes : List Change
  boxes = mbox_changes (boxed folder vars) vars s.desk.places.mbox

  abbrev first : List Change
  first = placed_changes s.here (gathered_changes s.desk.gathered) ++ placed_changes s.here boxes

  abbrev own : List Change
  own = placed_changes s.here (folder_changes list folder vars)

  abbrev mid : Files
  mid = apply first base files

  abbrev now : Files
  now = apply c.changes c.base files

  changes_are : c.changes ≡ first ++ own
  changes_are =
      ap (λ (c : Commit). c.changes) leaves
      ∙ ap (placed_changes s.here) (sym (append_assoc (gathered_changes s.desk.gathered) boxes (folder_changes list folder vars)))
      ∙ map-append (placed_change s.here) (gathered_changes s.desk.gathered ++ boxes) (folder_changes list folder vars)
      ∙ ap (λ (cs : List Change). cs ++ own) (map-append (placed_change s.here) (gathered_changes s.desk.gathered) boxes)

  base_is : c.base ≡ base
  base_is = ap (λ (c : Commit). c.base) leaves

  in_order : now ≡ apply own base mid
  in_order =
      ap (λ (cs : List Change). apply cs c.base files) changes_are
      ∙ ap (λ (b : List (List ℕ)). apply (first ++ own) b files) base_is
      ∙ apply-append first own base files

  plain : All IsPlain first
  plain =
      All-append IsPlain (placed_changes s.here (gathered_changes s.desk.gathered)) (placed_changes s.here boxes)
      (gathered_plain s.here s.desk.gathered) (boxing_plain s.here s.desk.places.mbox (boxed folder vars) vars)

  among : (name : List ℕ) → PutsOther name first → PutsOther name c.changes
  among name other = subst (PutsOther name) (sym changes_are) (other_front name first own other)

  abbrev Mine : Message → Type 0
  Mine m = IsMessageLeft s c n text m

  -- the folder's change, if there is one
  own_is : same_texts list base ≡ false → now ≡ after mid (Rewrite (folder_file s) list (is_set vars (codes "keep"))) base
  own_is other =
      let change = Rewrite (folder_file s) list (is_set vars (codes "keep")) in
      in_order
      ∙ ap (λ (cs : List Change). apply (placed_changes s.here cs) base mid) (cond-false (same_texts list base) [] (Rewrite folder.name list (is_set vars (codes "keep")) ∷ []) other)
      ∙ one_change change base mid

  own_none : same_texts list base ≡ true → now ≡ mid
  own_none same =
      in_order
      ∙ ap (λ (cs : List Change). apply (placed_changes s.here cs) base mid) (cond-true (same_texts list base) [] (Rewrite folder.name list (is_set vars (codes "keep")) ∷ []) same)
      ∙ apply_none base mid

  -- it goes to mbox
  to_mbox : same_texts list base ≡ false → (m : Message) → Mine m → Contains (boxed folder vars) (stamped_text m) → Becomes files c n text
  to_mbox other m mine goes = elim (same_or_not (mbox_file s) n) [
    | inl same ↦ inr (inr (unboxed s m mine (inl same.0)))
    | inr apart ↦ there (list_of_file (files (mbox_file s))) refl apart.0
  ]
    where
      there : (l : Option (List (List ℕ))) → list_of_file (files (mbox_file s)) ≡ l → mbox_file s ≢ n → Becomes files c n text
      there None none apart = inr (inr (unboxed s m mine (inr (inl none))))
      there (Some texts) some apart = elim (plainly (mbox_file s) base first (plain_for (mbox_file s) first plain) files texts some) [
        | inr raw ↦ inr (inr (unboxed s m mine (inr (inr (among (mbox_file s) raw)))))
        | inl grown ↦
            let is_same = same_then text m.0 (stamped_text m) mine.same (stamp-rest m.0 m.1) in
            let put : IsPut (mbox_file s) (stamped_text m) first =
            put_behind (mbox_file s) (stamped_text m) (placed_changes s.here (gathered_changes s.desk.gathered)) (placed_changes s.here boxes)
            (put_boxed s.here s.desk.places.mbox (boxed folder vars) vars (stamped_text m) goes) in
            let left : now (mbox_file s) ≡ mid (mbox_file s) =
            ap (λ (f : Files). f (mbox_file s)) (own_is other)
            ∙ after-other mid (Rewrite (folder_file s) list (is_set vars (codes "keep"))) base (mbox_file s) (λ at. apart (at ∙ mine.file)) in
            inr (inl (
              mbox_file s,
              record { state = s; leaves = leaves; file = refl; now = stamped_text m; boxed = goes; same = is_same },
              (grown.texts, stamped_text m, ap list_of_file left ∙ grown.listed, grown.put_too (stamped_text m) put, is_same),
            ))
      ]

  -- it was one of the messages that were read
  was_read : same_texts list base ≡ false → folder_file s ≡ n → (more : List (List ℕ)) → list_of_file (now n) ≡ Some (list ++ more)
      → (old : List ℕ) → Contains base old → IsSame text old → Becomes files c n text
  was_read other file more listed old at is = elim (message_at base folder.marks old at) [
    | inl found ↦ fate found
    | inr none ↦ inr (inr (unmarked s none.0 old leaves file none.1 is none.2))
  ]
    where
      fate : (m : Message) × Contains (messages_of folder) m × (m.0 ≡ old) → Becomes files c n text
      fate (m, there, same) =
          let same_text : IsSame text m.0 = subst (IsSame text) (sym same) is in
          let mine : Mine m = record { leaves = leaves; file = file; there = there; same = same_text } in
          elim (cases_Bool (is_given_up folder vars m)) [
            | inl gone ↦ inr (inr (given_up s m mine gone))
            | inr kept ↦ elim (each-stands folder vars m there kept) [
              | inl stays ↦ inl (list ++ more, stamped_text m, listed, Contains-append_left list more (stamped_text m) stays, same_then text m.0 (stamped_text m) same_text (stamp-rest m.0 m.1))
              | inr goes ↦ to_mbox other m mine goes
            ]
          ]

  -- the folder's file is rewritten, and this is the file
  rewritten : same_texts list base ≡ false → folder_file s ≡ n → Stands mid n text → Becomes files c n text
  rewritten other file (texts, old, listed, at, is) = elim (rewrites mid n list base texts keep (staying-proper folder vars (texts_of-proper folder.folder read)) listed) [
    | inr as_it_was ↦ inl (texts, old, ap list_of_file (here ∙ as_it_was) ∙ listed, at, is)
    | inl (more, split, made) ↦ elim (Contains-append_cases base more old (subst (λ (l : List (List ℕ)). Contains l old) split at)) [
      | inl in_base ↦ was_read other file more (ap list_of_file here ∙ made) old in_base is
      | inr appended ↦ inl (list ++ more, old, ap list_of_file here ∙ made, Contains-append_right list more old appended, is)
    ]
  ]
    where
      keep : Bool
      keep = is_set vars (codes "keep")

      here : now n ≡ after mid (Rewrite n list keep) base n
      here = ap (λ (f : Files). f n) (own_is other) ∙ ap (λ (k : List ℕ). after mid (Rewrite k list keep) base n) file

  left_so : Stands mid n text → (same_texts list base ≡ true) ⊎ (same_texts list base ≡ false) → Becomes files c n text
  left_so (texts, old, listed, at, is) (inl same) = inl (texts, old, ap (λ (f : Files). list_of_file (f n)) (own_none same) ∙ listed, at, is)
  left_so (texts, old, listed, at, is) (inr other) = elim (same_or_not n (folder_file s)) [
    | inl here ↦ rewritten other (sym here.0) (texts, old, listed, at, is)
    | inr apart ↦
        let left = ap (λ (f : Files). f n) (own_is other) ∙ after-other mid (Rewrite (folder_file s) list (is_set vars (codes "keep"))) base n apart.0 in
        inl (texts, old, ap list_of_file left ∙ listed, at, is)
  ]

  -- each message of a file stands there, or in mbox, or was taken away
  pub left_becomes : Stands files n text → Becomes files c n text
  left_becomes stands = elim (stands_plainly n base first files text plain stands) [
    | inr raw ↦ inr (inr (overlaid (among n raw)))
    | inl still ↦ left_so still (cases_Bool (same_texts list base))
  ]
