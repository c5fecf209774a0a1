-- When a folder is left, its file has one change, to texts that can be read back, or none.
use Rattle.std.proofs.Common.{◌≡◌, ◌≢◌, ◌⊎◌, inl, inr, ℕ, Bool, true, false, ◌==◌, List, [], ◌∷◌, ◌++◌, Option, Some, length, sym, ap, append_assoc, subst, ◌∙◌}
use Rattle.std.specs.Prelude.{filter, codes, All, if◌then◌else◌}
use Rattle.std.specs.List.{zip}
use Rattle.std.proofs.lemmas.Bool.{cases_Bool, cond-true, cond-false}
use Rattle.std.proofs.lemmas.List.{append-nil, map-append}
use Rattle.std.proofs.lemmas.List.Elements.{All-nil, All-cons, All-head, All-tail, All-append, All-filter, All-map}
use Rattle.host_port.specs.Disk.{disk}
use Rattle.mbox_scan.specs.Mailbox.{IsProper, texts_of}
use Rattle.mbox_scan.proofs.MailboxLemmas.{texts_of-proper}
use Rattle.message_state.specs.declared.mark.Mark.{Mark}
use Rattle.message_state.proofs.ProperLemmas.{stamped-proper}
use Rattle.mailx_vars.specs.Settings.{Settings, is_set}
use Rattle.folder_change.specs.declared.change.Change.{Change}
use Rattle.folder_change.specs.declared.change.Change.TheVariants.{Rewrite}
use Rattle.folder_change.specs.Changes.{name_of}
use Rattle.folder_change.specs.ListLaws.{list_of_file}
use Rattle.commit_machine.specs.Due.{settled_files}
use Rattle.session_play.specs.Committing.{Commit}
use Rattle.play_safety.specs.Appended.{IsOnlyOne, Adds, nothing, passes, puts, AddsAndRewrites, IsRewritten}
use Rattle.play_safety.proofs.AppendedLemmas.{others-left, rewrites-followed, adds-follow, adds-followed}
use Rattle.quit_rules.specs.declared.open.Open.{Open}
use Rattle.quit_rules.specs.declared.gathered.BatchItem.{BatchItem}
use Rattle.quit_rules.specs.declared.gathered.Payload.{Payload}
use Rattle.quit_rules.specs.declared.gathered.Payload.TheVariants.{Texts, Bytes}
use Rattle.quit_rules.specs.Gathering.{change_of, gathered_changes, put}
use Rattle.quit_rules.specs.Fates.{fate_of, is_staying, rules_of}
use Rattle.quit_rules.specs.Plans.{Message, boxed, folder_changes, mbox_change, mbox_changes, messages_of, quit_changes, same_texts, stamped_text, staying}
use Rattle.quit_rules.proofs.PlanLemmas.{true-same}
use Rattle.session_state.specs.Placing.{placed, placed_change, placed_changes}
use Rattle.mailx_top.specs.Quits.{QuitsKeepAppended, QuitsKeepGathered}
use Rattle.mailx_top.specs.Meaning.{actor_in}

-- ---- the texts that stay are proper
stamped-all : (texts : List (List ℕ)) (marks : List Mark) → All IsProper texts → All (λ (m : Message). IsProper (stamped_text m)) (zip texts marks)
stamped-all [] marks proper = All-nil (λ (m : Message). IsProper (stamped_text m))
stamped-all (t ∷ ts) [] proper = All-nil (λ (m : Message). IsProper (stamped_text m))
stamped-all (t ∷ ts) (m ∷ ms) proper =
    All-cons (λ (m : Message). IsProper (stamped_text m)) (t, m) (zip ts ms)
    (stamped-proper t m (All-head IsProper t ts proper)) (stamped-all ts ms (All-tail IsProper t ts proper))

pub staying-proper : (folder : Open) (vars : Settings) → All IsProper (texts_of folder.folder) → All IsProper (staying folder vars)
staying-proper folder vars proper =
    All-map IsProper stamped_text (filter (λ (m : Message). is_staying (fate_of (rules_of folder vars) m.1.state)) (messages_of folder))
    (All-filter (λ (m : Message). is_staying (fate_of (rules_of folder vars) m.1.state)) (λ (m : Message). IsProper (stamped_text m)) (messages_of folder)
    (stamped-all (texts_of folder.folder) folder.marks proper))

-- ---- the folder's file has one change
other-file : (here n mbox : List ℕ) (texts : List (List ℕ)) (append : Bool) → n ≢ placed here mbox → n ≢ name_of (placed_change here (mbox_change mbox texts append))
other-file here n mbox texts true apart = apart
other-file here n mbox texts false apart = apart

mbox-apart : (here n mbox : List ℕ) (texts : List (List ℕ)) (vars : Settings) → n ≢ placed here mbox
    → All (λ (other : Change). n ≢ name_of other) (placed_changes here (mbox_changes texts vars mbox))
mbox-apart here n mbox texts vars apart = go (length texts == 0)
  where
    append : Bool
    append = is_set vars (codes "append")

    go : (b : Bool) → All (λ (other : Change). n ≢ name_of other) (placed_changes here (if b then [] else mbox_change mbox texts append ∷ []))
    go true = All-nil (λ (other : Change). n ≢ name_of other)
    go false =
        All-cons (λ (other : Change). n ≢ name_of other) (placed_change here (mbox_change mbox texts append)) [] (other-file here n mbox texts append apart)
        (All-nil (λ (other : Change). n ≢ name_of other))

-- what was gathered for other files changes those
put-apart : (here n name : List ℕ) (what : Payload) → n ≢ placed here name → n ≢ name_of (placed_change here (put name what))
put-apart here n name (Texts texts) apart = apart
put-apart here n name (Bytes bytes) apart = apart

gathered-apart : (here n : List ℕ) (gathered : List BatchItem) → All (λ (one : BatchItem). n ≢ placed here one.name) gathered
    → All (λ (other : Change). n ≢ name_of other) (placed_changes here (gathered_changes gathered))
gathered-apart here n [] apart = All-nil (λ (other : Change). n ≢ name_of other)
gathered-apart here n (one ∷ more) apart =
    All-cons (λ (other : Change). n ≢ name_of other) (placed_change here (change_of one)) (placed_changes here (gathered_changes more))
    (put-apart here n one.name one.what (All-head (λ (one : BatchItem). n ≢ placed here one.name) one more apart))
    (gathered-apart here n more (All-tail (λ (one : BatchItem). n ≢ placed here one.name) one more apart))

-- what stands before the change of the folder: what was gathered, and the change of mbox
abbrev before_folder : Open → Settings → List ℕ → List BatchItem → List Change
before_folder folder vars mbox gathered = gathered_changes gathered ++ mbox_changes (boxed folder vars) vars mbox

before-apart : (here n : List ℕ) (folder : Open) (vars : Settings) (mbox : List ℕ) (gathered : List BatchItem) → n ≢ placed here mbox
    → All (λ (one : BatchItem). n ≢ placed here one.name) gathered → All (λ (other : Change). n ≢ name_of other) (placed_changes here (before_folder folder vars mbox gathered))
before-apart here n folder vars mbox gathered apart elsewhere =
    subst (All (λ (other : Change). n ≢ name_of other)) (sym (map-append (placed_change here) (gathered_changes gathered) (mbox_changes (boxed folder vars) vars mbox)))
    (All-append (λ (other : Change). n ≢ name_of other) (placed_changes here (gathered_changes gathered)) (placed_changes here (mbox_changes (boxed folder vars) vars mbox))
    (gathered-apart here n gathered elsewhere) (mbox-apart here n mbox (boxed folder vars) vars apart))

-- the changes of a quit are these, and then that of the folder
quit-parts : (folder : Open) (vars : Settings) (mbox : List ℕ) (gathered : List BatchItem)
    → quit_changes folder vars mbox gathered ≡ before_folder folder vars mbox gathered ++ folder_changes (staying folder vars) folder vars
quit-parts folder vars mbox gathered =
    sym (append_assoc (gathered_changes gathered) (mbox_changes (boxed folder vars) vars mbox) (folder_changes (staying folder vars) folder vars))

pub folder-once : (here : List ℕ) (folder : Open) (vars : Settings) (mbox : List ℕ) (gathered : List BatchItem)
    → same_texts (staying folder vars) (texts_of folder.folder) ≡ false → placed here folder.name ≢ placed here mbox
    → All (λ (one : BatchItem). placed here folder.name ≢ placed here one.name) gathered
    → IsOnlyOne (Rewrite (placed here folder.name) (staying folder vars) (is_set vars (codes "keep"))) (placed_changes here (quit_changes folder vars mbox gathered))
folder-once here folder vars mbox gathered rewrites apart elsewhere = record {
  front = placed_changes here (before_folder folder vars mbox gathered);
  rest = [];
  is =
      ap (placed_changes here) (quit-parts folder vars mbox gathered)
      ∙ map-append (placed_change here) (before_folder folder vars mbox gathered) _
      ∙ ap (λ (cs : List Change). placed_changes here (before_folder folder vars mbox gathered) ++ placed_changes here cs) (cond-false _ _ _ rewrites);
  others = (before-apart here (placed here folder.name) folder vars mbox gathered apart elsewhere, All-nil (λ (other : Change). placed here folder.name ≢ name_of other));
}

-- a file that stays, to which nothing changes
left-as-is : (base list : List (List ℕ)) (before now : Option (List ℕ)) → list ≡ base → now ≡ before → IsRewritten base list before now
left-as-is base list before now same is = record {
  follows = λ appended listed. ap list_of_file is ∙ listed ∙ ap (λ (l : List (List ℕ)). Some (l ++ appended)) (sym same);
  stays = λ other. is;
}

pub quits-keep : QuitsKeepAppended
quits-keep start env status d es safe front behind e now c s left decides alone leaves = go (cases_Bool (same_texts list base))
  where
    folder : Open
    folder = s.desk.folder

    vars : Settings
    vars = s.desk.vars

    mbox : List ℕ
    mbox = s.desk.places.mbox

    gathered : List BatchItem
    gathered = s.desk.gathered

    file : List ℕ
    file = placed s.here folder.name

    base : List (List ℕ)
    base = texts_of folder.folder

    list : List (List ℕ)
    list = staying folder vars

    keep : Bool
    keep = is_set vars (codes "keep")

    changes : c.changes ≡ placed_changes s.here (quit_changes folder vars mbox gathered)
    changes = ap (λ (c : Commit). c.changes) leaves.commit

    for_base : c.base ≡ base
    for_base = ap (λ (c : Commit). c.base) leaves.commit

    none-here : same_texts list base ≡ true → All (λ (other : Change). file ≢ name_of other) c.changes
    none-here same =
        let mine : List Change = before_folder folder vars mbox gathered in
        let whole : c.changes ≡ placed_changes s.here mine =
        changes ∙ ap (placed_changes s.here) (quit-parts folder vars mbox gathered)
        ∙ ap (λ (cs : List Change). placed_changes s.here (mine ++ cs)) (cond-true _ _ _ same) ∙ ap (placed_changes s.here) (append-nil mine) in
        subst (All (λ (other : Change). file ≢ name_of other)) (sym whole) (before-apart s.here file folder vars mbox gathered leaves.apart leaves.elsewhere)

    go : (same_texts list base ≡ true) ⊎ (same_texts list base ≡ false)
        → IsRewritten base list (settled_files (actor_in env) (disk d front) file) (settled_files (actor_in env) now file)
    go (inl same) =
        left-as-is base list _ _ (true-same list base same)
        (others-left (actor_in env) env.token d es safe.commits safe.out safe.safe front behind e now c file left decides alone (none-here same))
    go (inr other) =
        let one = subst (IsOnlyOne (Rewrite file list keep)) (sym changes) (folder-once s.here folder vars mbox gathered other leaves.apart leaves.elsewhere) in
        let proper = staying-proper folder vars (texts_of-proper folder.folder leaves.read) in
        subst (λ (b : List (List ℕ)). IsRewritten b list (settled_files (actor_in env) (disk d front) file) (settled_files (actor_in env) now file)) for_base
        (rewrites-followed (actor_in env) env.token d es safe.commits safe.out safe.safe front behind e now c file list keep left decides alone one proper)

-- ---- what was gathered for the folder's own file
adds-apart : (n : List ℕ) (changes : List Change) → All (λ (other : Change). n ≢ name_of other) changes → Adds n changes []
adds-apart n [] apart = nothing
adds-apart n (c ∷ cs) apart =
    passes (All-head (λ (other : Change). n ≢ name_of other) c cs apart) (adds-apart n cs (All-tail (λ (other : Change). n ≢ name_of other) c cs apart))

adds-then : {n : List ℕ} {changes : List Change} {texts : List (List ℕ)} → Adds n changes texts → (others : List Change)
    → All (λ (other : Change). n ≢ name_of other) others → Adds n (changes ++ others) texts
adds-then {n = n} nothing others apart = adds-apart n others apart
adds-then (passes away adds) others apart = passes away (adds-then adds others apart)
adds-then (puts proper adds) others apart = puts proper (adds-then adds others apart)

-- what stands before the change of the folder adds what was gathered to it
before-adds : (here n : List ℕ) (folder : Open) (vars : Settings) (mbox : List ℕ) (gathered : List BatchItem) (texts : List (List ℕ)) → n ≢ placed here mbox
    → Adds n (placed_changes here (gathered_changes gathered)) texts → Adds n (placed_changes here (before_folder folder vars mbox gathered)) texts
before-adds here n folder vars mbox gathered texts apart adds =
    subst (λ (cs : List Change). Adds n cs texts) (sym (map-append (placed_change here) (gathered_changes gathered) (mbox_changes (boxed folder vars) vars mbox)))
    (adds-then adds (placed_changes here (mbox_changes (boxed folder vars) vars mbox)) (mbox-apart here n mbox (boxed folder vars) vars apart))

pub quits-keep-gathered : QuitsKeepGathered
quits-keep-gathered start env status d es safe front behind e now c s gathered appended left decides alone leaves is = go (cases_Bool (same_texts list base))
  where
    folder : Open
    folder = s.desk.folder

    vars : Settings
    vars = s.desk.vars

    mbox : List ℕ
    mbox = s.desk.places.mbox

    file : List ℕ
    file = placed s.here folder.name

    base : List (List ℕ)
    base = texts_of folder.folder

    list : List (List ℕ)
    list = staying folder vars

    mine : List Change
    mine = before_folder folder vars mbox s.desk.gathered

    changes : c.changes ≡ placed_changes s.here (mine ++ folder_changes list folder vars)
    changes = ap (λ (c : Commit). c.changes) leaves.commit ∙ ap (placed_changes s.here) (quit-parts folder vars mbox s.desk.gathered)

    for_base : c.base ≡ base
    for_base = ap (λ (c : Commit). c.base) leaves.commit

    adds : Adds file (placed_changes s.here mine) gathered
    adds = before-adds s.here file folder vars mbox s.desk.gathered gathered leaves.apart leaves.adds

    go : (same_texts list base ≡ true) ⊎ (same_texts list base ≡ false) → list_of_file (settled_files (actor_in env) now file) ≡ Some (list ++ (appended ++ gathered))
    go (inl same) =
        let whole : c.changes ≡ placed_changes s.here mine =
        changes ∙ ap (λ (cs : List Change). placed_changes s.here (mine ++ cs)) (cond-true _ _ _ same) ∙ ap (placed_changes s.here) (append-nil mine) in
        adds-follow (actor_in env) env.token d es safe.commits safe.out safe.safe front behind e now c file gathered (base ++ appended) left decides alone
        (subst (λ (cs : List Change). Adds file cs gathered) (sym whole) adds) is
        ∙ ap (λ (l : List (List ℕ)). Some l) (append_assoc base appended gathered)
        ∙ ap (λ (l : List (List ℕ)). Some (l ++ (appended ++ gathered))) (sym (true-same list base same))
    go (inr other) =
        let keep = is_set vars (codes "keep") in
        let both : AddsAndRewrites file gathered list keep c.changes = record {
          front = placed_changes s.here mine;
          rest = [];
          is =
              changes ∙ map-append (placed_change s.here) mine (folder_changes list folder vars)
              ∙ ap (λ (cs : List Change). placed_changes s.here mine ++ placed_changes s.here cs) (cond-false _ _ _ other);
          adds = adds;
          others = All-nil (λ (other : Change). file ≢ name_of other);
        } in
        let proper = staying-proper folder vars (texts_of-proper folder.folder leaves.read) in
        let held : list_of_file (settled_files (actor_in env) (disk d front) file) ≡ Some (c.base ++ appended) = is ∙ ap (λ (b : List (List ℕ)). Some (b ++ appended)) (sym for_base) in
        adds-followed (actor_in env) env.token d es safe.commits safe.out safe.safe front behind e now c file gathered list appended keep left decides alone both proper held
