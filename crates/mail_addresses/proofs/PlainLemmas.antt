-- Addresses as most are written: the tokens of their parts, and the list that they are.
use Rattle.std.proofs.Common.{◌≡◌, ℕ, ◌+◌, ◌-◌, ◌<◌, ◌≤◌, suc, Bool, true, false, ◌==◌, Option, Some, None, IfSome, List, [], ◌∷◌, ◌++◌, inl, inr, refl, sym, ap, ◌∙◌, subst, length, take, drop, take-append-drop, get_or, arith, append_assoc, length-append}
use Rattle.std.proofs.lemmas.Bool.{or_left, or_parts, and_parts, cond-false, ne_eqb, false≢true}
use Rattle.std.specs.List.{list_all}
use Rattle.std.proofs.lemmas.List.{append-nil, take_at}
use Rattle.mail_addresses.specs.declared.address.Address.{Address}
use Rattle.mail_addresses.specs.declared.pieces.Place.{Place}
use Rattle.mail_addresses.specs.declared.pieces.Place.TheVariants.{Outside, Brackets, Group, GroupBrackets}
use Rattle.mail_addresses.specs.Lexical.{Lexeme, blanks, atom, quoted, mark, text_of, texts, begins, is_blank_byte, is_atom_byte, is_special, IsQuotedContent, IsToken, StandBefore}
use Rattle.mail_addresses.specs.Forms.{is_mark, Lacks, is_dot_atom, IsSpec, GivesSpec, unescaped, IsName, IsMailbox}
use Rattle.mail_addresses.specs.Forms.IsName.{one}
use Rattle.mail_addresses.specs.Listing.{is_cut, in_first, place_after, pieces_from, pieces, Spells, Reads}
use Rattle.mail_addresses.specs.Plain.{AreFront, IsAtomFront, HasDots, HasSpec, HasGaps, HasName, HasWords}
use Rattle.mail_addresses.proofs.TokenLemmas.{texts-append, texts-one}
use Rattle.mail_addresses.proofs.TokenUnique.{atom_no_blank}
use Rattle.mail_addresses.proofs.MailboxLemmas.{mailbox_lacks}
use Rattle.mail_addresses.proofs.ListingLemmas.{lists_last}

-- ---- tokens at the front

stand_append : (ts us : List Lexeme) (rest : List ℕ) → StandBefore ts (texts us ++ rest) → StandBefore us rest → StandBefore (ts ++ us) rest
stand_append [] us rest h k = k
stand_append (t ∷ ts) us rest h k =
    (subst (IsToken t) (sym (append_assoc (texts ts) (texts us) rest) ∙ ap (λ (xs : List ℕ). xs ++ rest) (sym (texts-append ts us))) h.0, stand_append ts us rest h.1 k)

-- tokens, and then others
pub front_append : (bytes middle after : List ℕ) (ts us : List Lexeme) → AreFront bytes middle ts → AreFront middle after us → AreFront bytes after (ts ++ us)
front_append bytes middle after ts us h k = record {
  joined = h.joined ∙ ap (λ (xs : List ℕ). texts ts ++ xs) k.joined ∙ sym (append_assoc (texts ts) (texts us) after) ∙ ap (λ (xs : List ℕ). xs ++ after) (sym (texts-append ts us));
  stand = stand_append ts us after (subst (StandBefore ts) k.joined h.stand) k.stand;
}

pub front_one : (bytes after : List ℕ) (t : Lexeme) → bytes ≡ text_of t ++ after → IsToken t after → AreFront bytes after (t ∷ [])
unfolding texts
front_one bytes after t e is = record { joined = e ∙ ap (λ (xs : List ℕ). xs ++ after) (sym (texts-one t)); stand = (is, tt) }

pub front_none : (bytes after : List ℕ) → bytes ≡ after → AreFront bytes after []
unfolding texts
front_none bytes after e = record { joined = e; stand = tt }

dot_front : (later : List ℕ) → AreFront (46 ∷ later) later (mark 46 ∷ [])
unfolding is_blank_byte is_atom_byte is_special
dot_front later = front_one (46 ∷ later) later (mark 46) refl (refl, refl, λ z. absurd (omega (arith, z)), λ z. absurd (omega (arith, z)), λ z. absurd (omega (arith, z)))

at_front : (later : List ℕ) → AreFront (64 ∷ later) later (mark 64 ∷ [])
unfolding is_blank_byte is_atom_byte is_special
at_front later = front_one (64 ∷ later) later (mark 64) refl (refl, refl, λ z. absurd (omega (arith, z)), λ z. absurd (omega (arith, z)), λ z. absurd (omega (arith, z)))

open_front : (later : List ℕ) → AreFront (60 ∷ later) later (mark 60 ∷ [])
unfolding is_blank_byte is_atom_byte is_special
open_front later = front_one (60 ∷ later) later (mark 60) refl (refl, refl, λ z. absurd (omega (arith, z)), λ z. absurd (omega (arith, z)), λ z. absurd (omega (arith, z)))

close_front : (later : List ℕ) → AreFront (62 ∷ later) later (mark 62 ∷ [])
unfolding is_blank_byte is_atom_byte is_special
close_front later = front_one (62 ∷ later) later (mark 62) refl (refl, refl, λ z. absurd (omega (arith, z)), λ z. absurd (omega (arith, z)), λ z. absurd (omega (arith, z)))

space_front : (later : List ℕ) → begins is_blank_byte later ≡ false → AreFront (32 ∷ later) later (blanks (32 ∷ []) ∷ [])
unfolding is_blank_byte
space_front later ends = front_one (32 ∷ later) later (blanks (32 ∷ [])) refl (record { some = λ e. cc; all = refl; ends = ends })

-- ---- atoms and dots

pub dots_last : (bytes run after : List ℕ) → IsAtomFront bytes run after → HasDots bytes after
unfolding is_dot_atom
dots_last bytes run after h = (atom run ∷ [], front_one bytes after (atom run) h.joined h.is_run, refl)

pub dots_more : (bytes run after later last : List ℕ) → IsAtomFront bytes run after → after ≡ 46 ∷ later → HasDots later last → HasDots bytes last
unfolding is_dot_atom
dots_more bytes run after later last h e (ts, front, dots) =
    let behind : AreFront after last (mark 46 ∷ ts) =
    subst (λ (xs : List ℕ). AreFront xs last (mark 46 ∷ ts)) (sym e) (front_append (46 ∷ later) later last (mark 46 ∷ []) ts (dot_front later) front) in
    (atom run ∷ mark 46 ∷ ts, front_append bytes after last (atom run ∷ []) (mark 46 ∷ ts) (front_one bytes after (atom run) h.joined h.is_run) behind, dots)

-- ---- specs

front_length : (bytes after : List ℕ) (ts : List Lexeme) → AreFront bytes after ts → length bytes - length after ≡ length (texts ts)
front_length bytes after ts front =
    let longer : length bytes ≡ length (texts ts) + length after = ap (λ (xs : List ℕ). length xs) front.joined ∙ length-append (texts ts) after in
    omega arith

pub spec_local : (bytes after : List ℕ) (n : ℕ) → HasDots bytes after → n ≡ length bytes - length after → HasSpec bytes n after
spec_local bytes after n (ts, front, dots) e = (ts, front, inl (or_left _ _ dots, e ∙ front_length bytes after ts front))

pub spec_domain : (bytes after domain last : List ℕ) (n : ℕ) → HasDots bytes after → after ≡ 64 ∷ domain → HasDots domain last → n ≡ length bytes - length after → HasSpec bytes n last
spec_domain bytes after domain last n (ts, front, dots) e (us, behind, later) k =
    let joined : AreFront after last (mark 64 ∷ us) =
    subst (λ (xs : List ℕ). AreFront xs last (mark 64 ∷ us)) (sym e) (front_append (64 ∷ domain) domain last (mark 64 ∷ []) us (at_front domain) behind) in (
      ts ++ mark 64 ∷ us,
      front_append bytes after last ts (mark 64 ∷ us) front joined,
      inr record {
        local = ts;
        domain = us;
        whole = refl;
        is_local = or_left _ _ dots;
        has_domain = or_left _ _ later;
        count = k ∙ front_length bytes after ts front;
      },
    )

-- ---- lists

no_cut : (place : Place) (t : Lexeme) → is_mark 44 t ≡ false → is_cut place t ≡ false
no_cut Outside t h = h
no_cut Brackets t h = refl
no_cut Group t h = refl
no_cut GroupBrackets t h = refl

-- without a comma there is one piece
one_piece : (place : Place) (ts : List Lexeme) → Lacks 44 ts → pieces_from place ts ≡ ts ∷ []
unfolding pieces_from
one_piece place [] h = refl
one_piece place (t ∷ ts) h =
    let parts = or_parts (is_mark 44 t) _ h in
    cond-false _ _ _ (no_cut place t parts.0) ∙ ap (in_first t) (one_piece (place_after place t) ts parts.1)

reads_one : (value : List ℕ) (ts : List Lexeme) (a : Address) → AreFront value [] ts → IsMailbox ts a → Reads value (a ∷ [])
reads_one value ts a front is =
    let lacks = mailbox_lacks 44 ts a (λ z. absurd (omega (arith, z))) (λ z. absurd (omega (arith, z))) (λ z. absurd (omega (arith, z))) (λ z. absurd (omega (arith, z))) is in
    record {
      tokens = ts;
      are_tokens = record { joined = sym (front.joined ∙ append-nil (texts ts)); stand = front.stand };
      lists = lists_last Spells (pieces ts) ts (a ∷ []) (one_piece Outside ts lacks) (inr (inl (a, refl, is)));
    }

whole_gives : (ts : List Lexeme) (n : ℕ) (a : Address) → IsSpec ts n → a.local ≡ n → a.spec ≡ texts ts → GivesSpec ts a
whole_gives ts n a is local text = record {
  before = [];
  spec = ts;
  after = [];
  whole = sym (append-nil ts);
  gaps_before = refl;
  gaps_after = refl;
  is_spec = subst (IsSpec ts) (sym local) is;
  text = text;
}

-- a value that is a spec
pub reads_spec : (value after : List ℕ) (n : ℕ) (a : Address) → HasSpec value n after → after ≡ [] → a.name ≡ [] → a.spec ≡ value → a.local ≡ n → Reads value (a ∷ [])
reads_spec value after n a (ts, front, is) e name spec local =
    let whole : AreFront value [] ts = subst (λ (xs : List ℕ). AreFront value xs ts) e front in
    reads_one value ts a whole (inl (whole_gives ts n a is local (spec ∙ whole.joined ∙ append-nil (texts ts)), name))

-- a value that is a name and a spec in angle brackets
pub reads_angled : (value back last after : List ℕ) (n : ℕ) (a : Address) → HasName value a.name back → HasSpec back n last → last ≡ 62 ∷ after
    → after ≡ [] → a.spec ≡ take (length back - length last) back → a.local ≡ n → Reads value (a ∷ [])
reads_angled value back last after n a (fs, named_front, named) (ts, front, is) e none spec local =
    let closed : last ≡ 62 ∷ [] = e ∙ ap (λ (xs : List ℕ). 62 ∷ xs) none in
    let close : AreFront last [] (mark 62 ∷ []) = subst (λ (xs : List ℕ). AreFront xs [] (mark 62 ∷ [])) (sym closed) (close_front []) in
    let inside : AreFront (60 ∷ back) [] (mark 60 ∷ (ts ++ mark 62 ∷ [])) =
    front_append (60 ∷ back) back [] (mark 60 ∷ []) (ts ++ mark 62 ∷ []) (open_front back) (front_append back last [] ts (mark 62 ∷ []) front close) in
    let text : take (length back - length last) back ≡ texts ts =
    ap (take (length back - length last)) front.joined ∙ take_at (texts ts) last (length back - length last) (sym (front_length back last ts front)) in
    reads_one value (fs ++ mark 60 ∷ (ts ++ mark 62 ∷ [])) a (front_append value (60 ∷ back) [] fs (mark 60 ∷ (ts ++ mark 62 ∷ [])) named_front inside)
    (inr (
      fs,
      (
        ts ++ mark 62 ∷ [],
        refl,
        record {
          inside = ts;
          after = [];
          whole = refl;
          named = named;
          gives_spec = whole_gives ts n a is local (spec ∙ text);
          gaps_after = refl;
        },
      ),
    ))

-- ---- names

pub name_none : (bytes back : List ℕ) → bytes ≡ 60 ∷ back → HasName bytes [] back
name_none bytes back e = ([], front_none bytes (60 ∷ back) e, inl (refl, refl))

pub gaps_none : (bytes back : List ℕ) → bytes ≡ 60 ∷ back → HasGaps bytes back
gaps_none bytes back e = record { gaps = []; front = front_none bytes (60 ∷ back) e; are_gaps = refl }

pub gaps_space : (bytes later back : List ℕ) → bytes ≡ 32 ∷ later → later ≡ 60 ∷ back → HasGaps bytes back
unfolding is_blank_byte
gaps_space bytes later back e f =
    let same : bytes ≡ 32 ∷ (60 ∷ back) = e ∙ ap (λ (xs : List ℕ). 32 ∷ xs) f in
    record {
      gaps = blanks (32 ∷ []) ∷ [];
      front = subst (λ (xs : List ℕ). AreFront xs (60 ∷ back) (blanks (32 ∷ []) ∷ [])) (sym same) (space_front (60 ∷ back) refl);
      are_gaps = refl;
    }

atom_starts : (bytes run after : List ℕ) → IsAtomFront bytes run after → begins is_blank_byte bytes ≡ false
atom_starts bytes [] after h = absurd (h.is_run.some refl)
atom_starts bytes (b ∷ run) after h = ap (begins is_blank_byte) h.joined ∙ atom_no_blank b (and_parts _ _ h.is_run.all).0

pub words_last : (bytes run after back : List ℕ) → IsAtomFront bytes run after → HasGaps after back → HasWords bytes run back
words_last bytes run after back h g = record {
  words = atom run ∷ [];
  gaps = g.gaps;
  front = front_append bytes after (60 ∷ back) (atom run ∷ []) g.gaps (front_one bytes after (atom run) h.joined h.is_run) g.front;
  starts = atom_starts bytes run after h;
  is_name = one {t = atom run} refl;
  are_gaps = g.are_gaps;
}

pub words_more : (bytes run after later text back : List ℕ) → IsAtomFront bytes run after → after ≡ 32 ∷ later → HasWords later text back → HasWords bytes (run ++ 32 ∷ text) back
words_more bytes run after later text back h e w =
    let behind : AreFront after (60 ∷ back) (blanks (32 ∷ []) ∷ (w.words ++ w.gaps)) =
    subst (λ (xs : List ℕ). AreFront xs (60 ∷ back) (blanks (32 ∷ []) ∷ (w.words ++ w.gaps))) (sym e)
    (front_append (32 ∷ later) later (60 ∷ back) (blanks (32 ∷ []) ∷ []) (w.words ++ w.gaps) (space_front later w.starts) w.front) in
    record {
      words = atom run ∷ blanks (32 ∷ []) ∷ w.words;
      gaps = w.gaps;
      front = front_append bytes after (60 ∷ back) (atom run ∷ []) (blanks (32 ∷ []) ∷ (w.words ++ w.gaps)) (front_one bytes after (atom run) h.joined h.is_run) behind;
      starts = atom_starts bytes run after h;
      is_name = IsName.apart {t = atom run} {ts = w.words} {text = text} (blanks (32 ∷ []) ∷ []) refl (λ e. cc) refl w.is_name;
      are_gaps = w.are_gaps;
    }

pub name_words : (bytes text back : List ℕ) → HasWords bytes text back → HasName bytes text back
name_words bytes text back w = (
  w.words ++ w.gaps,
  w.front,
  inr record {
    before = [];
    name = w.words;
    after = w.gaps;
    whole = refl;
    gaps_before = refl;
    gaps_after = w.are_gaps;
    is_name = w.is_name;
  },
)

-- what the words have before what follows them
pub words_text : (bytes before rest run after : List ℕ) → bytes ≡ before ++ rest → IsAtomFront rest run after → take (length bytes - length after) bytes ≡ before ++ run
words_text bytes before rest run after e h =
    let whole : bytes ≡ (before ++ run) ++ after = e ∙ ap (λ (xs : List ℕ). before ++ xs) h.joined ∙ sym (append_assoc before run after) in
    let longer : length bytes ≡ length (before ++ run) + length after = ap (λ (xs : List ℕ). length xs) whole ∙ length-append (before ++ run) after in
    ap (take (length bytes - length after)) whole ∙ take_at (before ++ run) after (length bytes - length after) (omega arith)

-- without backslashes a quoted string stands for what it has
pub unescaped_plain : (bs : List ℕ) → ((k : ℕ) → k < length bs → get_or bs k 0 ≡ 92 → ⊥) → unescaped false bs ≡ bs
unfolding unescaped
unescaped_plain [] none = refl
unescaped_plain (b ∷ bs) none = cond-false _ _ _ (ne_eqb _ _ (none 0 (omega arith))) ∙ ap (λ (xs : List ℕ). b ∷ xs) (unescaped_plain bs (λ k l e. none (suc k) (omega arith) e))

pub name_quoted : (inside content after back : List ℕ) → inside ≡ content ++ 34 ∷ after → IsQuotedContent content → unescaped false content ≡ content
    → HasGaps after back → HasName (34 ∷ inside) content back
name_quoted inside content after back e is plain g =
    let begin : 34 ∷ inside ≡ text_of (quoted content) ++ after = ap (λ (xs : List ℕ). 34 ∷ xs) (e ∙ sym (append_assoc content (34 ∷ []) after)) in (
      quoted content ∷ g.gaps,
      front_append (34 ∷ inside) after (60 ∷ back) (quoted content ∷ []) g.gaps (front_one (34 ∷ inside) after (quoted content) begin is) g.front,
      inr record {
        before = [];
        name = quoted content ∷ [];
        after = g.gaps;
        whole = refl;
        gaps_before = refl;
        gaps_after = g.are_gaps;
        is_name = subst (IsName (quoted content ∷ [])) plain (one {t = quoted content} refl);
      },
    )

pub atom_front_is : (bytes run after : List ℕ) (n : ℕ) → run ≡ take n bytes → after ≡ drop n bytes → list_all is_atom_byte (take n bytes) ≡ true
    → begins is_atom_byte (drop n bytes) ≡ false → (empty : Bool) → empty ≡ (length run == 0) → empty ≡ false → IsAtomFront bytes run after
atom_front_is bytes run after n front back all ends empty is none = record {
  joined = sym (take-append-drop n bytes) ∙ ap (λ (xs : List ℕ). xs ++ drop n bytes) (sym front) ∙ ap (λ (xs : List ℕ). run ++ xs) (sym back);
  is_run = record {
    some = λ e. false≢true (sym none ∙ is ∙ ap (λ (xs : List ℕ). length xs == 0) e);
    all = ap (list_all is_atom_byte) front ∙ all;
    ends = ap (begins is_atom_byte) back ∙ ends;
  };
}

-- what is left is less
pub front_less : (rest run after later : List ℕ) (b : ℕ) → IsAtomFront rest run after → after ≡ b ∷ later → length later < length rest
front_less rest run after later b h e =
    let longer : length rest ≡ length run + length after = ap (λ (xs : List ℕ). length xs) h.joined ∙ length-append run after in
    let more : length after ≡ suc (length later) = ap (λ (xs : List ℕ). length xs) e in
    omega arith

-- what follows from what holds of a value
pub if_some : {A : Type 0} (o : Option A) (P Q : A → Type 0) → ((x : A) → P x → Q x) → IfSome o P → IfSome o Q
if_some None P Q f h = tt
if_some (Some x) P Q f h = f x h

-- what follows is no longer than the whole
pub front_within : (bytes after : List ℕ) (ts : List Lexeme) → AreFront bytes after ts → length after ≤ length bytes
front_within bytes after ts front =
    let longer : length bytes ≡ length (texts ts) + length after = ap (λ (xs : List ℕ). length xs) front.joined ∙ length-append (texts ts) after in
    omega arith

pub dots_within : (bytes after : List ℕ) → HasDots bytes after → length after ≤ length bytes
dots_within bytes after (ts, front, dots) = front_within bytes after ts front

pub spec_within : (bytes : List ℕ) (n : ℕ) (after : List ℕ) → HasSpec bytes n after → length after ≤ length bytes
spec_within bytes n after (ts, front, is) = front_within bytes after ts front

pub words_within : (bytes before rest run after : List ℕ) → bytes ≡ before ++ rest → IsAtomFront rest run after → length after ≤ length bytes
words_within bytes before rest run after e h =
    let whole : length bytes ≡ length before + length rest = ap (λ (xs : List ℕ). length xs) e ∙ length-append before rest in
    let longer : length rest ≡ length run + length after = ap (λ (xs : List ℕ). length xs) h.joined ∙ length-append run after in
    omega arith
