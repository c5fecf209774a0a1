-- A receipt tells what is there.
use Rattle.std.proofs.Common.{◌≡◌, ◌≢◌, ℕ, ◌<◌, zero, suc, Bool, true, false, inl, inr, List, [], ◌∷◌, ◌++◌, length, map, get_or, refl, sym, ap, subst, ◌∙◌, append_assoc, append-nil, arith}
use Rattle.std.specs.Prelude.{All, ◌||◌, ◌==◌, codes, if◌then◌else◌}
use Rattle.std.specs.List.{Contains, ends_with, flat_map}
use Rattle.std.specs.Prelude.{nat_eq}
use Rattle.std.proofs.lemmas.List.Elements.{All-nil, All-cons, Contains-append_left}
use Rattle.mbox_scan.specs.Mailbox.{join, two_feeds}
use Rattle.folder_change.specs.declared.change.Change.{Change}
use Rattle.folder_change.specs.Apply.{Files, after, apply}
use Rattle.folder_change.specs.Outcomes.{bytes_of, missing_feeds}
use Rattle.quit_rules.specs.declared.gathered.Payload.{Payload}
use Rattle.quit_rules.specs.declared.gathered.Payload.TheVariants.{Texts, Bytes}
use Rattle.quit_rules.specs.declared.gathered.BatchItem.{BatchItem}
use Rattle.quit_rules.specs.Gathering.{change_of, gathered_changes, put}
use Rattle.quit_rules.specs.Plans.{boxed, leaving_changes, staying}
use Rattle.command_desk.specs.declared.desk.Desk.{Desk}
use Rattle.command_desk.specs.declared.steps.Ask.{Ask}
use Rattle.command_desk.specs.declared.steps.Ask.TheVariants.{Say, Commit}
use Rattle.folder_commands.specs.Leaving.{changes_of, counted, left_reply, quit, replies}
use Rattle.filing_laws.specs.Gathering.{put_bytes}
use Rattle.filing_laws.specs.Saving.{StandsIn}
use Rattle.filing_laws.specs.Telling.{Commits, EndsWith, GatheredIsTold, IsTold, PutIsAtTheEnd, QuitsTellBehind, SaysBehind}
use Rattle.filing_laws.proofs.GatheringLemmas.{added_here, raw_here}
use Rattle.filing_laws.proofs.LeavingLemmas.{one_change}
use Rattle.filing_laws.proofs.Places.{contains_map, stands_before, stands_in_flat}

-- ---- a quit
-- asks that begin with a commit print nothing before it
pub begins_with : (change : Change) (changes : List Change) (rest front behind : List Ask) (bytes : List ℕ) → Contains changes change
    → Commit changes ∷ rest ≡ front ++ Say bytes ∷ behind → Commits change front
begins_with change changes rest [] behind bytes holds is = absurd (cc)
begins_with change changes rest (a ∷ front) behind bytes holds is =
    let first : Commit changes ≡ a = cc in
    record { changes = changes; asked = (0, omega arith, sym first); holds = holds }

pub quits_tell_behind : QuitsTellBehind
quits_tell_behind desk change holds front behind bytes is = begins_with change (changes_of desk) _ front behind bytes holds is

pub gathered_is_told : GatheredIsTold
gathered_is_told desk one at = record {
  changed = Contains-append_left (gathered_changes desk.gathered) (leaving_changes desk.folder desk.vars desk.places.mbox) (change_of one) (contains_map change_of desk.gathered one at);
  told =
      let boxes = counted desk.places.mbox (codes "Saved") (length (boxed desk.folder desk.vars)) in
      stands_before one.reply (replies desk.gathered ++ boxes) (counted desk.folder.name (codes "Held") (length (staying desk.folder desk.vars)))
      (stands_before one.reply (replies desk.gathered) boxes (stands_in_flat (λ (g : BatchItem). g.reply) desk.gathered one at));
}

-- ---- what is put
abbrev IsFeed : ℕ → Type 0
IsFeed b = b ≡ 10

one_feed : All IsFeed (10 ∷ [])
one_feed = All-cons IsFeed 10 [] refl (All-nil IsFeed)

missing_are_feeds : (b : List ℕ) → All IsFeed (missing_feeds b)
unfolding missing_feeds
missing_are_feeds b = go (length b == 0 || ends_with nat_eq b two_feeds) (ends_with nat_eq b (10 ∷ []))
  where
    go : (x y : Bool) → All IsFeed (if x then [] else if y then 10 ∷ [] else two_feeds)
    go true y = All-nil IsFeed
    go false true = one_feed
    go false false = All-cons IsFeed 10 (10 ∷ []) refl one_feed

put_last : (name : List ℕ) (what : Payload) (base : List (List ℕ)) (files : Files)
    → EndsWith (bytes_of (files name)) (put_bytes what) (bytes_of (after files (put name what) base name))
put_last name (Texts texts) base files = record {
  between = missing_feeds (bytes_of (files name));
  feeds = missing_are_feeds (bytes_of (files name));
  is = ap bytes_of (added_here name texts base files) ∙ append_assoc (bytes_of (files name)) (missing_feeds (bytes_of (files name))) (join texts);
}
put_last name (Bytes bytes) base files = record { between = []; feeds = All-nil IsFeed; is = ap bytes_of (raw_here name bytes base files) }

pub put_is_at_the_end : PutIsAtTheEnd
put_is_at_the_end one base files =
    subst (λ (f : Files). EndsWith (bytes_of (files one.name)) (put_bytes one.what) (bytes_of (f one.name)))
    (sym (one_change (change_of one) base files)) (put_last one.name one.what base files)
