-- Pieces that give addresses, joined by commas, are cut into the same pieces again.
use Rattle.std.proofs.Common.{◌≡◌, ◌≢◌, ℕ, false, List, [], ◌∷◌, ◌++◌, inl, inr, refl, sym, ap, ◌∙◌, subst, arith}
use Rattle.std.proofs.lemmas.Bool.{cond-false, or_parts}
use Rattle.std.proofs.lemmas.List.{append-nil}
use Rattle.mail_addresses.specs.declared.address.Address.{Address}
use Rattle.mail_addresses.specs.declared.pieces.Place.{Place}
use Rattle.mail_addresses.specs.declared.pieces.Place.TheVariants.{Outside, Brackets, Group, GroupBrackets}
use Rattle.mail_addresses.specs.Lexical.{Lexeme, mark}
use Rattle.mail_addresses.specs.Forms.{is_mark, Lacks, AreGaps, IsMailbox}
use Rattle.mail_addresses.specs.Listing.{place_after, is_cut, in_first, pieces_from, pieces, joined, Gives, Lists, SpellsMailbox, SpellsGroup, Spells}
use Rattle.mail_addresses.proofs.PieceLemmas.{with_front, with_front-nil}
use Rattle.mail_addresses.proofs.BalanceLemmas.{pieces_joined}
use Rattle.mail_addresses.proofs.MailboxLemmas.{gaps_lack, gives_lacks, display_lacks}

-- the place after some tokens
place_over : Place → List Lexeme → Place
place_over place [] = place
place_over place (t ∷ ts) = place_over (place_after place t) ts

-- none of them cuts
abbrev CutsNone : Place → List Lexeme → Type 0
CutsNone place [] = Unit {0}
CutsNone place (t ∷ ts) = (is_cut place t ≡ false) × CutsNone (place_after place t) ts

-- tokens that cut nothing lead from one place to another
record Leads (start end : Place) (ts : List Lexeme) : Type 0 where
  cuts_none : CutsNone start ts
  ends : place_over start ts ≡ end

cuts_append : (place : Place) (ts us : List Lexeme) → CutsNone place ts → CutsNone (place_over place ts) us → CutsNone place (ts ++ us)
unfolding place_over
cuts_append place [] us h k = k
cuts_append place (t ∷ ts) us h k = (h.0, cuts_append (place_after place t) ts us h.1 k)

over_append : (place : Place) (ts us : List Lexeme) → place_over place (ts ++ us) ≡ place_over (place_over place ts) us
unfolding place_over
over_append place [] us = refl
over_append place (t ∷ ts) us = over_append (place_after place t) ts us

leads_append : (a b c : Place) (ts us : List Lexeme) → Leads a b ts → Leads b c us → Leads a c (ts ++ us)
leads_append a b c ts us h k = record {
  cuts_none = cuts_append a ts us h.cuts_none (subst (λ (p : Place). CutsNone p us) (sym h.ends) k.cuts_none);
  ends = over_append a ts us ∙ ap (λ (p : Place). place_over p us) h.ends ∙ k.ends;
}

-- tokens, a mark and tokens
leads_mark : (a b c d : Place) (n : ℕ) (ts us : List Lexeme) → Leads a b ts → Leads b c (mark n ∷ []) → Leads c d us → Leads a d (ts ++ mark n ∷ us)
leads_mark a b c d n ts us h m k = leads_append a b d ts (mark n ∷ us) h (leads_append b c d (mark n ∷ []) us m k)

-- a place that the token leaves as it is
leads_more : (place : Place) (t : Lexeme) (ts : List Lexeme) → is_cut place t ≡ false → place_after place t ≡ place → Leads place place ts → Leads place place (t ∷ ts)
unfolding place_over
leads_more place t ts cut same h = record {
  cuts_none = (cut, subst (λ (p : Place). CutsNone p ts) (sym same) h.cuts_none);
  ends = ap (λ (p : Place). place_over p ts) same ∙ h.ends;
}

leads_none : (place : Place) → Leads place place []
unfolding place_over
leads_none place = record { cuts_none = tt; ends = refl }

outside : (ts : List Lexeme) → Lacks 44 ts → Lacks 60 ts → Lacks 58 ts → Leads Outside Outside ts
outside [] comma opening colon = leads_none Outside
outside (t ∷ ts) comma opening colon =
    let commas = or_parts (is_mark 44 t) _ comma in
    let opens = or_parts (is_mark 60 t) _ opening in
    let colons = or_parts (is_mark 58 t) _ colon in
    leads_more Outside t ts commas.0 (cond-false _ _ _ opens.0 ∙ cond-false _ _ _ colons.0) (outside ts commas.1 opens.1 colons.1)

brackets : (ts : List Lexeme) → Lacks 62 ts → Leads Brackets Brackets ts
brackets [] close = leads_none Brackets
brackets (t ∷ ts) close = let closes = or_parts (is_mark 62 t) _ close in leads_more Brackets t ts refl (cond-false _ _ _ closes.0) (brackets ts closes.1)

group : (ts : List Lexeme) → Lacks 60 ts → Lacks 59 ts → Leads Group Group ts
group [] opening end = leads_none Group
group (t ∷ ts) opening end =
    let opens = or_parts (is_mark 60 t) _ opening in
    let ends = or_parts (is_mark 59 t) _ end in
    leads_more Group t ts refl (cond-false _ _ _ opens.0 ∙ cond-false _ _ _ ends.0) (group ts opens.1 ends.1)

group_brackets : (ts : List Lexeme) → Lacks 62 ts → Leads GroupBrackets GroupBrackets ts
group_brackets [] close = leads_none GroupBrackets
group_brackets (t ∷ ts) close = let closes = or_parts (is_mark 62 t) _ close in leads_more GroupBrackets t ts refl (cond-false _ _ _ closes.0) (group_brackets ts closes.1)

one_mark : (a b : Place) (n : ℕ) → is_cut a (mark n) ≡ false → place_after a (mark n) ≡ b → Leads a b (mark n ∷ [])
unfolding place_over
one_mark a b n cut next = record { cuts_none = (cut, tt); ends = next }

gaps_outside : (ts : List Lexeme) → AreGaps ts → Leads Outside Outside ts
gaps_outside ts gaps = outside ts (gaps_lack 44 ts gaps) (gaps_lack 60 ts gaps) (gaps_lack 58 ts gaps)

gaps_group : (ts : List Lexeme) → AreGaps ts → Leads Group Group ts
gaps_group ts gaps = group ts (gaps_lack 60 ts gaps) (gaps_lack 59 ts gaps)

mailbox_outside : (ts : List Lexeme) (a : Address) → IsMailbox ts a → Leads Outside Outside ts
mailbox_outside ts a (inl (gives, unnamed)) =
    outside ts
    (gives_lacks 44 ts a (λ z. absurd (omega (arith, z))) (λ z. absurd (omega (arith, z))) gives)
    (gives_lacks 60 ts a (λ z. absurd (omega (arith, z))) (λ z. absurd (omega (arith, z))) gives)
    (gives_lacks 58 ts a (λ z. absurd (omega (arith, z))) (λ z. absurd (omega (arith, z))) gives)
mailbox_outside ts a (inr (front, (back, whole, is))) =
    let name = outside front (display_lacks 44 front a.name (λ z. absurd (omega (arith, z))) is.named)
    (display_lacks 60 front a.name (λ z. absurd (omega (arith, z))) is.named) (display_lacks 58 front a.name (λ z. absurd (omega (arith, z))) is.named) in
    let inside = brackets is.inside (gives_lacks 62 is.inside a (λ z. absurd (omega (arith, z))) (λ z. absurd (omega (arith, z))) is.gives_spec) in
    let rest : Leads Brackets Outside back =
    subst (Leads Brackets Outside) (sym is.whole)
    (leads_mark Brackets Brackets Outside Outside 62 is.inside is.after inside (one_mark Brackets Outside 62 refl refl) (gaps_outside is.after is.gaps_after)) in
    subst (Leads Outside Outside) (sym whole) (leads_mark Outside Outside Brackets Outside 60 front back name (one_mark Outside Brackets 60 refl refl) rest)

mailbox_group : (ts : List Lexeme) (a : Address) → IsMailbox ts a → Leads Group Group ts
mailbox_group ts a (inl (gives, unnamed)) =
    group ts
    (gives_lacks 60 ts a (λ z. absurd (omega (arith, z))) (λ z. absurd (omega (arith, z))) gives)
    (gives_lacks 59 ts a (λ z. absurd (omega (arith, z))) (λ z. absurd (omega (arith, z))) gives)
mailbox_group ts a (inr (front, (back, whole, is))) =
    let name = group front (display_lacks 60 front a.name (λ z. absurd (omega (arith, z))) is.named) (display_lacks 59 front a.name (λ z. absurd (omega (arith, z))) is.named) in
    let inside = group_brackets is.inside (gives_lacks 62 is.inside a (λ z. absurd (omega (arith, z))) (λ z. absurd (omega (arith, z))) is.gives_spec) in
    let rest : Leads GroupBrackets Group back =
    subst (Leads GroupBrackets Group) (sym is.whole)
    (leads_mark GroupBrackets GroupBrackets Group Group 62 is.inside is.after inside (one_mark GroupBrackets Group 62 refl refl) (gaps_group is.after is.gaps_after)) in
    subst (Leads Group Group) (sym whole) (leads_mark Group Group GroupBrackets Group 60 front back name (one_mark Group GroupBrackets 60 refl refl) rest)

member_group : (ts : List Lexeme) (list : List Address) → Gives SpellsMailbox ts list → Leads Group Group ts
member_group ts list (inl (gaps, e)) = gaps_group ts gaps
member_group ts list (inr (a, e, is)) = mailbox_group ts a is

members_group : (list : List (List Lexeme)) (all : List Address) → Lists SpellsMailbox list all → Leads Group Group (joined list)
members_group [] all lists = leads_none Group
members_group (piece ∷ []) all lists = member_group piece lists.0 lists.1.2
members_group (piece ∷ other ∷ pieces) all lists =
    leads_mark Group Group Group Group 44 piece (joined (other ∷ pieces)) (member_group piece lists.0 lists.1.2) (one_mark Group Group 44 refl refl)
    (members_group (other ∷ pieces) lists.1.0 lists.1.3)

group_outside : (ts : List Lexeme) (list : List Address) → SpellsGroup ts list → Leads Outside Outside ts
group_outside ts list (front, (back, whole, is)) =
    let name = outside front (display_lacks 44 front is.name (λ z. absurd (omega (arith, z))) is.named)
    (display_lacks 60 front is.name (λ z. absurd (omega (arith, z))) is.named) (display_lacks 58 front is.name (λ z. absurd (omega (arith, z))) is.named) in
    let inside : Leads Group Group is.inside = subst (Leads Group Group) (pieces_joined Outside is.inside) (members_group (pieces is.inside) list is.lists) in
    let rest : Leads Group Outside back = subst (Leads Group Outside) (sym is.whole)
    (leads_mark Group Group Outside Outside 59 is.inside is.after inside (one_mark Group Outside 59 refl refl) (gaps_outside is.after is.gaps_after)) in
    subst (Leads Outside Outside) (sym whole) (leads_mark Outside Outside Group Outside 58 front back name (one_mark Outside Group 58 refl refl) rest)

piece_outside : (piece : List Lexeme) (list : List Address) → Gives Spells piece list → Leads Outside Outside piece
piece_outside piece list (inl (gaps, e)) = gaps_outside piece gaps
piece_outside piece list (inr (inl (a, e, is))) = mailbox_outside piece a is
piece_outside piece list (inr (inr is)) = group_outside piece list is

-- tokens that cut nothing stand in the first piece
uncut : (place : Place) (ts later : List Lexeme) → CutsNone place ts → pieces_from place (ts ++ later) ≡ with_front ts (pieces_from (place_over place ts) later)
unfolding pieces_from place_over
uncut place [] later h = sym (with_front-nil place later)
uncut place (t ∷ ts) later h =
    cond-false _ _ _ h.0
    ∙ ap (in_first t) (uncut (place_after place t) ts later h.1)
    ∙ in_first-with_front t ts (pieces_from (place_over (place_after place t) ts) later)
  where
    in_first-with_front : (t : Lexeme) (ts : List Lexeme) (list : List (List Lexeme)) → in_first t (with_front ts list) ≡ with_front (t ∷ ts) list
    in_first-with_front t ts [] = refl
    in_first-with_front t ts (piece ∷ pieces) = refl

last_piece : (piece : List Lexeme) → Leads Outside Outside piece → pieces piece ≡ piece ∷ []
unfolding pieces_from
last_piece piece h =
    ap pieces (sym (append-nil piece)) ∙ uncut Outside piece [] h.cuts_none ∙ ap (λ (p : Place). with_front piece (pieces_from p [])) h.ends ∙ ap (λ (ts : List Lexeme). ts ∷ []) (append-nil piece)

next_piece : (piece later : List Lexeme) → Leads Outside Outside piece → pieces (piece ++ mark 44 ∷ later) ≡ piece ∷ pieces later
unfolding pieces_from
next_piece piece later h =
    uncut Outside piece (mark 44 ∷ later) h.cuts_none ∙ ap (λ (p : Place). with_front piece (pieces_from p (mark 44 ∷ later))) h.ends ∙ ap (λ (ts : List Lexeme). ts ∷ pieces later) (append-nil piece)

-- pieces that give a list are cut again as they are
pub cut_again : (list : List (List Lexeme)) (all : List Address) → list ≢ [] → Lists Spells list all → pieces (joined list) ≡ list
cut_again [] all some lists = absurd (some refl)
cut_again (piece ∷ []) all some lists = last_piece piece (piece_outside piece lists.0 lists.1.2)
cut_again (piece ∷ other ∷ pieces) all some lists =
    next_piece piece (joined (other ∷ pieces)) (piece_outside piece lists.0 lists.1.2)
    ∙ ap (λ (ps : List (List Lexeme)). piece ∷ ps) (cut_again (other ∷ pieces) lists.1.0 (λ e. cc) lists.1.3)
