-- A second has one moment in a zone, and what a run knows is one thing.
use Rattle.std.proofs.Common.{◌≡◌, ℕ, Bool, true, false, List, refl, sym, ◌∙◌, ap, subst, inl, inr}
use Rattle.std.specs.Prelude.{ℤ, ◌+ℤ◌, ◌-ℤ◌, ◌*ℤ◌, ◌&&◌, ◌||◌, int_lt, IsSome, if◌then◌else◌}
use Rattle.std.specs.Option.{option_map}
use Rattle.std.specs.declared.option.Option.{Option}
use Rattle.std.specs.declared.option.Option.TheVariants.{Some, None}
use Rattle.jiff_core.specs.Timestamp.{nanos_of_seconds}
use Rattle.jiff_core.specs.declared.Offset.{Offset}
use Rattle.jiff_tz.specs.declared.posix.Day.{Day}
use Rattle.jiff_tz.specs.declared.posix.DayTime.{DayTime}
use Rattle.jiff_tz.specs.declared.posix.Dst.{Dst}
use Rattle.jiff_tz.specs.declared.posix.TimeZone.{TimeZone}
use Rattle.jiff_tz.specs.PosixText.{TzText, DstText, day_time_view, dst_view, tz_view}
use Rattle.jiff_tz.specs.PosixRule.{match_some, clamp_to, nanos_per_day, first_nanosecond, last_nanosecond, rule_day, rule_nanos, in_window, saturating_add, int_same, utc_window, dst_at_by, offset_at}
use Rattle.jiff_tz.specs.Year.{year_of_nanos}
use Rattle.mail_dates.specs.declared.moment.Moment.{Moment}
use Rattle.mail_dates.specs.declared.zone.Zone.{Zone}
use Rattle.mail_dates.specs.Zones.{zone_offset, within_years}
use Rattle.session_play.specs.Moments.{IsZoneOf, IsMomentAt}

-- ---- what a rule shows

abbrev nanos_by : ℤ → Day × ℤ → ℤ → ℤ
nanos_by y p seconds = match_some (rule_day y p.0) (last_nanosecond y) (λ day.
    clamp_to (first_nanosecond y) (last_nanosecond y) (day *ℤ nanos_per_day +ℤ nanos_of_seconds (p.1 -ℤ seconds)))

abbrev window_by : DstText → ℤ → ℤ → ℤ × ℤ
window_by d y std =
    let start : ℤ = nanos_by y d.start std in
    let end : ℤ = nanos_by y d.finish d.seconds in
    let shifted : ℤ = saturating_add end (nanos_of_seconds std) in
    if int_same start (first_nanosecond y) && (int_lt shifted (first_nanosecond y) || int_lt (last_nanosecond y) shifted)
    then (start, last_nanosecond y)
    else (start, end)

nanos-by : (y : ℤ) (d : DayTime) (seconds : ℤ) → rule_nanos y d seconds ≡ nanos_by y (day_time_view d) seconds
unfolding rule_nanos
nanos-by y d seconds = refl

window-by : (d : Dst) (y : ℤ) (std : Offset) → utc_window d y std ≡ window_by (dst_view d) y std.seconds
unfolding utc_window rule_nanos
window-by d y std = refl

in-dst : (b : Bool) (s : Offset) (d : Dst) → (match_some (if b then Some d else None) s (λ e. e.offset)).seconds ≡ (if b then d.offset.seconds else s.seconds)
in-dst true s d = refl
in-dst false s d = refl

some-same : {A : Type 0} (a b : A) → Some a ≡ Some b → a ≡ b
some-same a b e = cc

dst-same : (s t : Offset) (x y : Option Dst) (n : ℤ) → s.seconds ≡ t.seconds → option_map dst_view x ≡ option_map dst_view y
    → (match_some (dst_at_by s x n) s (λ d. d.offset)).seconds ≡ (match_some (dst_at_by t y n) t (λ d. d.offset)).seconds
dst-same s t None None n std same = std
dst-same s t None (Some e) n std same = absurd (cc same)
dst-same s t (Some d) None n std same = absurd (cc same)
dst-same s t (Some d) (Some e) n std same =
    let views : dst_view d ≡ dst_view e = some-same (dst_view d) (dst_view e) same in
    let year = year_of_nanos n in
    let windows : utc_window d year s ≡ utc_window e year t = window-by d year s ∙ (λ i. window_by (views i) year (std i)) ∙ sym (window-by e year t) in
    in-dst (in_window (utc_window d year s) n) s d
    ∙ (λ i. if in_window (windows i) n then (views i).seconds else std i)
    ∙ sym (in-dst (in_window (utc_window e year t) n) t e)

rule-same : (a b : TimeZone) (n : ℤ) → tz_view a ≡ tz_view b → (offset_at a n).seconds ≡ (offset_at b n).seconds
rule-same a b n same = dst-same a.std_offset b.std_offset a.dst b.dst n (ap (λ (t : TzText). t.std_seconds) same) (ap (λ (t : TzText). t.dst) same)

zone-same : (tz : List ℕ) (z w : Zone) (seconds : ℤ) → IsZoneOf tz z → IsZoneOf tz w → zone_offset z seconds ≡ zone_offset w seconds
zone-same tz z w seconds (inl is) (inl also) = rule-same z.rule w.rule (nanos_of_seconds seconds) (some-same (tz_view z.rule) (tz_view w.rule) (sym is ∙ also))
zone-same tz z w seconds (inl is) (inr (none, zero_there)) = absurd (none (subst (λ (r : Option TzText). IsSome r) (sym is) refl))
zone-same tz z w seconds (inr (none, zero_here)) (inl also) = absurd (none (subst (λ (r : Option TzText). IsSome r) (sym also) refl))
zone-same tz z w seconds (inr (none, zero_here)) (inr (nor, zero_there)) = zero_here seconds ∙ sym (zero_there seconds)

pub moment-same : (tz : List ℕ) (seconds : ℤ) (m n : Moment) → IsMomentAt tz seconds m → IsMomentAt tz seconds n → m ≡ n
moment-same tz seconds m n one two =
    let at : m.seconds ≡ n.seconds = one.seconds_are ∙ sym two.seconds_are in
    let by : m.offset ≡ n.offset = one.offset_is ∙ zone-same tz one.zone two.zone (within_years seconds) one.is_of two.is_of ∙ sym two.offset_is in
    (λ i. record { seconds = at i; offset = by i })
