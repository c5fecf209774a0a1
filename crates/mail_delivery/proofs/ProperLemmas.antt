-- The text of a delivery is proper.
use Rattle.std.proofs.Common.{◌≡◌, ◌≢◌, ◌≤◌, ℕ, ℤ, pos, if◌then◌else◌, true, false, List, [], ◌∷◌, ◌++◌, take, drop, map, length, codes, refl, sym, ap, subst, arith, ⊎_elim, take-append-drop}
use Rattle.std.specs.Prelude.{◌≤ℤ◌, int_lt}
use Rattle.std.proofs.lemmas.Int.{ints}
use Rattle.std.specs.List.{list_all, AllByRecursion, All}
use Rattle.std.proofs.lemmas.Bool.{cases_lt, and_parts}
use Rattle.std.proofs.lemmas.List.{length-take-le}
use Rattle.std.proofs.lemmas.List.Elements.{All-cons, All-nil, recursion_from_All}
use Rattle.std.proofs.lemmas.List.Folds.{flat_map-map}
use Rattle.memchr.specs.Find.{OccursAt}
use Rattle.mail_text.specs.Lines.{with_feed, HasNoFeed, lines_of}
use Rattle.mail_text.proofs.LineLemmas.{lines_of-apart}
use Rattle.jiff_core.specs.Calendar.{IsBetween, IsWithin}
use Rattle.jiff_core.specs.Timestamp.{nanos_of_seconds}
use Rattle.jiff_tz.specs.PosixRule.{offset_at}
use Rattle.mail_dates.specs.declared.moment.Moment.{Moment}
use Rattle.mail_dates.specs.Clock.{IsPrintable}
use Rattle.mail_dates.specs.Printed.{from_date_text}
use Rattle.mail_dates.specs.Zones.{within_years}
use Rattle.mbox_scan.specs.Mailbox.{from_mark, break_mark, trimmed, IsProper}
use Rattle.mbox_scan.proofs.StartLemmas.{starts_with-OccursAt, OccursAt-starts_with, OccursAt-left_back, starts-single}
use Rattle.mbox_scan.proofs.TextLemmas.{trimmed_len, trimmed_at, trimmed-take, trimmed-trimmed}
use Rattle.mailx_vars.specs.Names.{is_graphic, is_user_name}
use Rattle.session_play.specs.Moments.{IsMomentAt}
use Rattle.draft_text.specs.Texts.{quoted_line}
use Rattle.draft_text.proofs.BreakLemmas.{no-break}
use Rattle.draft_text.proofs.StoredLemmas.{opening-apart, quoted-quiet, trimmed-quiet}
use Rattle.mail_delivery.specs.Delivered.{quoted_lines, delivered}

-- ---- a text that begins with `From ` does so without the line feeds at its end
begins-trimmed : (t : List ℕ) → OccursAt t from_mark 0 → OccursAt (trimmed t) from_mark 0
begins-trimmed t there =
    let at = trimmed_at t in
    let fits = there.fits in
    let cut : trimmed_len t ≡ length (take (trimmed_len t) t) = sym (length-take-le (trimmed_len t) t at.within) in
    let long : 5 ≤ trimmed_len t = ⊎_elim
    (λ short. let feed = at.feeds 4 (omega arith) (omega arith) in let space = there.reads 4 (omega arith) in absurd (omega arith))
    (λ more. omega arith)
    (cases_lt (trimmed_len t) 5) in
    subst (λ (x : List ℕ). OccursAt x from_mark 0) (sym (trimmed-take t))
    (OccursAt-left_back (take (trimmed_len t) t) (drop (trimmed_len t) t) from_mark 0 (omega arith)
    (subst (λ (x : List ℕ). OccursAt x from_mark 0) (sym (take-append-drop (trimmed_len t) t)) there))

-- ---- a line that begins with `From `, and quoted ones after it
module _ (o : List ℕ) (ls : List (List ℕ)) (apart : HasNoFeed (from_mark ++ o)) (flat : AllByRecursion HasNoFeed ls) where
  abbrev whole : List ℕ
  whole = with_feed (from_mark ++ o) ++ quoted_lines ls

  begins : OccursAt whole from_mark 0
  begins = starts_with-OccursAt whole from_mark 0 (omega arith) refl

  quiet : (k : ℕ) → OccursAt whole break_mark k → ⊥
  quiet k there =
      no-break (from_mark ++ o) (map quoted_line ls) apart (quoted-quiet ls flat) k
      (subst (λ (x : List ℕ). OccursAt (with_feed (from_mark ++ o) ++ x) break_mark k) (sym (flat_map-map with_feed quoted_line ls)) there)

  pub whole-proper : IsProper (trimmed whole)
  whole-proper =
      let first = begins-trimmed whole begins in
      record {
        begins = OccursAt-starts_with (trimmed whole) from_mark 0 first;
        ends = trimmed-trimmed whole;
        one_start = starts-single (trimmed whole) first (λ k low high. trimmed-quiet whole quiet k);
      }

-- ---- the line of a sender and a moment
graphic-other : (b : ℕ) → is_graphic b ≡ true → b ≢ 10
graphic-other b h = λ is. let low : is_graphic b ≡ false = ap is_graphic is in absurd (cc (h, low))

graphic-apart : (s : List ℕ) → list_all is_graphic s ≡ true → HasNoFeed s
graphic-apart [] h = All-nil (λ (b : ℕ). b ≢ 10)
graphic-apart (b ∷ s) h = let p = and_parts _ _ h in All-cons (λ (b : ℕ). b ≢ 10) b s (graphic-other b p.0) (graphic-apart s p.1)

-- whose lines hold no line feed, one by one
lines-proper : (sender : List ℕ) (lines : List (List ℕ)) (m : Moment) → IsPrintable m → is_user_name sender ≡ true → AllByRecursion HasNoFeed lines → IsProper (delivered sender lines m)
unfolding delivered
lines-proper sender lines m range named flat =
    let apart = opening-apart sender m range (graphic-apart sender (and_parts _ _ named).1) in
    whole-proper (sender ++ codes " " ++ from_date_text m) lines apart flat

pub delivered-proper : (sender : List ℕ) (lines : List (List ℕ)) (m : Moment) → IsPrintable m → is_user_name sender ≡ true → All HasNoFeed lines → IsProper (delivered sender lines m)
delivered-proper sender lines m range named flat = lines-proper sender lines m range named (recursion_from_All HasNoFeed lines flat)

-- ---- a moment that the clock told can be printed
between-so : (low high n : ℤ) → low ≤ℤ high
    → (low ≤ℤ (if int_lt n low then low else (if int_lt high n then high else n))) × ((if int_lt n low then low else (if int_lt high n then high else n)) ≤ℤ high)
between-so low high n h = grind (arith, ints)

pub told-printable : (tz : List ℕ) (seconds : ℤ) (m : Moment) → IsMomentAt tz seconds m → IsPrintable m
told-printable tz seconds m at =
    let clock = between-so (pos 86_400) (pos 253_402_128_000) seconds (omega (arith, ints)) in
    let zone = (offset_at at.zone.rule (nanos_of_seconds (within_years seconds))).in_range in
    (subst (λ (n : ℤ). IsBetween (pos 86_400) (pos 253_402_128_000) n) (sym at.seconds_are) clock, subst (λ (n : ℤ). IsWithin 93_599 n) (sym at.offset_is) zone)

-- so the text of the lines of an input and of such a moment is proper
pub input-proper : (sender input : List ℕ) (tz : List ℕ) (seconds : ℤ) (m : Moment) → is_user_name sender ≡ true → IsMomentAt tz seconds m → IsProper (delivered sender (lines_of input) m)
input-proper sender input tz seconds m named at = lines-proper sender (lines_of input) m (told-printable tz seconds m at) named (lines_of-apart input)
