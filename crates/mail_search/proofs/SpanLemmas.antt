-- What is read is spelled: what the tokens so far are, frame by frame.
use Rattle.std.proofs.Common.{◌≡◌, ℕ, zero, suc, ◌+◌, List, [], ◌∷◌, ◌++◌, length, Option, Some, None, refl, sym, ap, ◌∙◌, subst, append_assoc, arith}
use Rattle.std.specs.Option.{option_map, option_and_then}
use Rattle.std.proofs.lemmas.Bool.{cond-true, cond-false, lt-ltb, le-ltb}
use Rattle.std.proofs.lemmas.List.{append-nil}
use Rattle.mail_search.specs.declared.argument.Argument.{Argument}
use Rattle.mail_search.specs.declared.argument.Argument.TheVariants as needs
use Rattle.mail_search.specs.declared.criterion.Test.{Test}
use Rattle.mail_search.specs.declared.criterion.Test.TheVariants as tested
use Rattle.mail_search.specs.declared.names.Opening.{Opening}
use Rattle.mail_search.specs.declared.names.Opening.TheVariants.{All, Is, Field, Header, Body, Text, Larger, Smaller, Day, Not, Or}
use Rattle.mail_search.specs.declared.reader.Frame.{Frame}
use Rattle.mail_search.specs.declared.reader.Frame.TheVariants.{Negation, First, Second, Group, More}
use Rattle.mail_search.specs.declared.reader.Want.{Want}
use Rattle.mail_search.specs.declared.reader.Want.TheVariants as want
use Rattle.mail_search.specs.Grammar.{string_in, test_with, test_of, IsKey, AreKeys}
use Rattle.mail_search.specs.Grammar.IsKey.{is_test, is_not, is_or, is_group}
use Rattle.mail_search.specs.Grammar.AreKeys.{is_one, are_more}
use Rattle.mail_search.specs.Keys.{Key, test, negation, either, both}
use Rattle.mail_search.specs.Names.{opening_of}
use Rattle.mail_search.specs.Reading.{Reading, reading, settled, opened, begun, made, argued, closed, keyed, by_want, after_token, after_tokens, start}
use Rattle.mail_search.specs.Tokens.{Token, opener, closer, gap, run, quoted, bad}
use Rattle.mail_search.proofs.ReadLemmas.{after_tokens-nil, after_tokens-cons, after_tokens-none}

-- the tokens that opened these frames, with the keys that are whole in them; n more may be opened inside
data Spans : ℕ → List Frame → List Key → List Token → Type 0 where
  in_none : {n : ℕ} → n ≡ 64 → Spans n [] [] []
  in_not : {n : ℕ} {fs : List Frame} {ks : List Key} {front : List Token} (name : List ℕ) → opening_of name ≡ Some Not → Spans (suc n) fs ks front → Spans n (Negation ∷ fs) ks (front ++ run name ∷ [])
  in_first : {n : ℕ} {fs : List Frame} {ks : List Key} {front : List Token} (name : List ℕ) → opening_of name ≡ Some Or → Spans (suc n) fs ks front → Spans n (First ∷ fs) ks (front ++ run name ∷ [])
  in_second : {n : ℕ} {fs : List Frame} {ks : List Key} {front us : List Token} {a : Key} (name : List ℕ) → opening_of name ≡ Some Or
      → Spans (suc n) fs ks front → IsKey n a us → Spans n (Second ∷ fs) (a ∷ ks) (front ++ run name ∷ us)
  in_group : {n : ℕ} {fs : List Frame} {ks : List Key} {front : List Token} → Spans (suc n) fs ks front → Spans n (Group ∷ fs) ks (front ++ opener ∷ [])
  in_more : {n : ℕ} {fs : List Frame} {ks : List Key} {front us : List Token} {a : Key} → Spans (suc n) fs ks front → AreKeys n a us → Spans n (More ∷ fs) (a ∷ ks) (front ++ opener ∷ us)

room_left : {n : ℕ} {fs : List Frame} {ks : List Key} {ts : List Token} → Spans n fs ks ts → n + length fs ≡ 64
room_left (in_none e) = omega arith
room_left (in_not name is s) = let r = room_left s in omega arith
room_left (in_first name is s) = let r = room_left s in omega arith
room_left (in_second name is s h) = let r = room_left s in omega arith
room_left (in_group s) = let r = room_left s in omega arith
room_left (in_more s h) = let r = room_left s in omega arith

-- these tokens and an argument spell a test
abbrev AwaitsLast : Argument → List Token → Type 0
AwaitsLast a args = (t : Token) (m : Test) → made a t ≡ Some m → test_of (args ++ t ∷ []) ≡ Some m

abbrev Awaits : Argument → List Token → Type 0
Awaits needs.Name args = (t : Token) (name : List ℕ) → string_in t ≡ Some name → AwaitsLast (needs.Field name) (args ++ t ∷ [])
Awaits a args = AwaitsLast a args

-- a key may begin after these tokens
abbrev IsAtKey : List Frame → List Key → List Token → Type 0
IsAtKey fs ks ts = (n : ℕ) × Spans n fs ks ts

-- the last of these tokens begin a test that lacks the argument
record IsAtArgument (fs : List Frame) (ks : List Key) (a : Argument) (ts : List Token) : Type 0 where
  room : ℕ
  front : List Token
  args : List Token
  cut : ts ≡ front ++ args
  spans : Spans room fs ks front
  awaits : Awaits a args

-- the tokens spell the one key
record IsWhole (ks : List Key) (ts : List Token) : Type 0 where
  key : Key
  one : ks ≡ key ∷ []
  spelled : IsKey 64 key ts

-- the tokens so far are those of the reading
abbrev IsAtBy : List Frame → List Key → Want → List Token → Type 0
IsAtBy fs ks want.Key ts = IsAtKey fs ks ts
IsAtBy fs ks (want.Argument a) ts = IsAtArgument fs ks a ts
IsAtBy fs ks want.Nothing ts = IsWhole ks ts

abbrev IsAt : Reading → List Token → Type 0
IsAt r ts = IsAtBy r.frames r.keys r.want ts

-- tokens in three parts
joined : (front : List Token) (t : Token) (us vs : List Token) → front ++ t ∷ (us ++ vs) ≡ (front ++ t ∷ us) ++ vs
joined front t us vs = sym (append_assoc front (t ∷ us) vs)

-- a whole key after the tokens of frames
settled_at : {n : ℕ} {fs : List Frame} {ks : List Key} {front : List Token} → Spans n fs ks front → (k : Key) (us : List Token) → IsKey n k us → IsAt (settled fs (k ∷ ks)) (front ++ us)
unfolding settled
settled_at (in_none e) k us h = record { key = k; one = refl; spelled = subst (λ (m : ℕ). IsKey m k us) e h }
settled_at (in_not {n} {fs} {ks} {front} name is s) k us h =
    subst (IsAt (settled fs (negation k ∷ ks))) (joined front (run name) [] us) (settled_at s (negation k) (run name ∷ us) (is_not is h))
settled_at (in_first {n} {fs} {ks} {front} name is s) k us h =
    (n, subst (Spans n (Second ∷ fs) (k ∷ ks)) (joined front (run name) [] us) (in_second name is s h))
settled_at (in_second {n} {fs} {ks} {front} {us = vs} {a} name is s g) k us h =
    subst (IsAt (settled fs (either a k ∷ ks))) (joined front (run name) vs us) (settled_at s (either a k) (run name ∷ (vs ++ us)) (is_or is g h))
settled_at (in_group {n} {fs} {ks} {front} s) k us h =
    (n, subst (Spans n (More ∷ fs) (k ∷ ks)) (joined front opener [] us) (in_more s (is_one h)))
settled_at (in_more {n} {fs} {ks} {front} {us = vs} {a} s g) k us h =
    (n, subst (Spans n (More ∷ fs) (both a k ∷ ks)) (joined front opener vs us) (in_more s (are_more g h)))

same_reading : (q r : Reading) → Some q ≡ Some r → q ≡ r
same_reading q r e = cc

no_reading : (r : Reading) (A : Type 0) → None ≡ Some r → A
no_reading r A e = cc

-- from a reading to the one that a step gave
moved : (q r : Reading) (ts : List Token) → Some q ≡ Some r → IsAt q ts → IsAt r ts
moved q r ts e at = subst (λ (x : Reading). IsAt x ts) (same_reading q r e) at

-- a frame is opened, if there is room
opened_at : (n : ℕ) (fs : List Frame) (ks : List Key) (ts us : List Token) (f : Frame) (r : Reading) → Spans n fs ks ts
    → ((m : ℕ) → Spans (suc m) fs ks ts → Spans m (f ∷ fs) ks us) → opened fs ks f ≡ Some r → IsAt r us
opened_at zero fs ks ts us f r s by e = no_reading r _ (sym (cond-false _ _ _ (le-ltb (length fs) 64 (let room = room_left s in omega arith))) ∙ e)
opened_at (suc m) fs ks ts us f r s by e =
    moved (reading (f ∷ fs) ks want.Key) r us (sym (cond-true _ _ _ (lt-ltb (length fs) 64 (let room = room_left s in omega arith))) ∙ e) (m, by m s)

-- a test with one argument, by its name
last_awaited : (name : List ℕ) (o : Opening) (a : Argument) → opening_of name ≡ Some o → ((t : Token) → test_with name o (t ∷ []) ≡ made a t) → AwaitsLast a (run name ∷ [])
last_awaited name o a is same t m e = ap (option_and_then (λ o. test_with name o (t ∷ []))) is ∙ same t ∙ e

header_awaited : (name : List ℕ) → opening_of name ≡ Some Header → Awaits needs.Name (run name ∷ [])
header_awaited name is f field named t m e =
    ap (option_and_then (λ o. test_with name o (f ∷ t ∷ []))) is ∙ ap (option_and_then (λ f. option_map (tested.Field f) (string_in t))) named ∙ e

-- a test by its name alone
alone_at : (n : ℕ) (fs : List Frame) (ks : List Key) (ts : List Token) (name : List ℕ) (o : Opening) (t : Test) (r : Reading) → Spans n fs ks ts
    → opening_of name ≡ Some o → test_with name o [] ≡ Some t
    → Some (settled fs (test t ∷ ks)) ≡ Some r → IsAt r (ts ++ run name ∷ [])
alone_at n fs ks ts name o t r s is whole e =
    moved _ r _ e (settled_at s (test t) (run name ∷ []) (is_test (ap (option_and_then (λ o. test_with name o [])) is ∙ whole)))

-- a name that wants an argument
awaited_at : (n : ℕ) (fs : List Frame) (ks : List Key) (ts : List Token) (name : List ℕ) (a : Argument) (r : Reading) → Spans n fs ks ts
    → Awaits a (run name ∷ []) → Some (reading fs ks (want.Argument a)) ≡ Some r → IsAt r (ts ++ run name ∷ [])
awaited_at n fs ks ts name a r s waits e = moved _ r _ e (record { room = n; front = ts; args = run name ∷ []; cut = refl; spans = s; awaits = waits })

begun_at : (n : ℕ) (fs : List Frame) (ks : List Key) (ts : List Token) (name : List ℕ) (o : Opening) (r : Reading) → Spans n fs ks ts
    → opening_of name ≡ Some o → begun fs ks name o ≡ Some r → IsAt r (ts ++ run name ∷ [])
begun_at n fs ks ts name All r s is e = alone_at n fs ks ts name All tested.All r s is refl e
begun_at n fs ks ts name (Is fact wanted) r s is e = alone_at n fs ks ts name (Is fact wanted) (tested.Is fact wanted) r s is refl e
begun_at n fs ks ts name Field r s is e = awaited_at n fs ks ts name (needs.Field name) r s (last_awaited name Field (needs.Field name) is (λ t. refl)) e
begun_at n fs ks ts name Header r s is e = awaited_at n fs ks ts name needs.Name r s (header_awaited name is) e
begun_at n fs ks ts name Body r s is e = awaited_at n fs ks ts name needs.Body r s (last_awaited name Body needs.Body is (λ t. refl)) e
begun_at n fs ks ts name Text r s is e = awaited_at n fs ks ts name needs.Text r s (last_awaited name Text needs.Text is (λ t. refl)) e
begun_at n fs ks ts name Larger r s is e = awaited_at n fs ks ts name needs.Larger r s (last_awaited name Larger needs.Larger is (λ t. refl)) e
begun_at n fs ks ts name Smaller r s is e = awaited_at n fs ks ts name needs.Smaller r s (last_awaited name Smaller needs.Smaller is (λ t. refl)) e
begun_at n fs ks ts name (Day clock order) r s is e = awaited_at n fs ks ts name (needs.Day clock order) r s (last_awaited name (Day clock order) (needs.Day clock order) is (λ t. refl)) e
begun_at n fs ks ts name Not r s is e = opened_at n fs ks ts (ts ++ run name ∷ []) Negation r s (λ m h. in_not name is h) e
begun_at n fs ks ts name Or r s is e = opened_at n fs ks ts (ts ++ run name ∷ []) First r s (λ m h. in_first name is h) e

named_at : (n : ℕ) (fs : List Frame) (ks : List Key) (ts : List Token) (name : List ℕ) (o : Option Opening) (r : Reading) → Spans n fs ks ts
    → opening_of name ≡ o → option_and_then (begun fs ks name) o ≡ Some r → IsAt r (ts ++ run name ∷ [])
named_at n fs ks ts name None r s is e = no_reading r _ e
named_at n fs ks ts name (Some o) r s is e = begun_at n fs ks ts name o r s is e

-- `)` after the tokens of frames
closed_at : {n : ℕ} {fs : List Frame} {ks : List Key} {ts : List Token} → Spans n fs ks ts → (r : Reading) → closed fs ks ≡ Some r → IsAt r (ts ++ closer ∷ [])
closed_at (in_none e) r is = no_reading r _ is
closed_at (in_not name named s) r is = no_reading r _ is
closed_at (in_first name named s) r is = no_reading r _ is
closed_at (in_second name named s h) r is = no_reading r _ is
closed_at (in_group s) r is = no_reading r _ is
closed_at (in_more {n} {fs} {ks} {front} {us} {a} s h) r is =
    moved _ r _ is (subst (IsAt (settled fs (a ∷ ks))) (joined front opener us (closer ∷ [])) (settled_at s a (opener ∷ (us ++ closer ∷ [])) (is_group h)))

keyed_at : (n : ℕ) (fs : List Frame) (ks : List Key) (ts : List Token) (t : Token) (r : Reading) → Spans n fs ks ts → keyed fs ks t ≡ Some r → IsAt r (ts ++ t ∷ [])
keyed_at n fs ks ts opener r s e = opened_at n fs ks ts (ts ++ opener ∷ []) Group r s (λ m h. in_group h) e
keyed_at n fs ks ts closer r s e = closed_at s r e
keyed_at n fs ks ts gap r s e = no_reading r _ e
keyed_at n fs ks ts (run name) r s e = named_at n fs ks ts name (opening_of name) r s refl e
keyed_at n fs ks ts (quoted bs) r s e = no_reading r _ e
keyed_at n fs ks ts bad r s e = no_reading r _ e

-- the last argument of a test
last_at : (fs : List Frame) (ks : List Key) (a : Argument) (ts : List Token) (t : Token) (m : Option Test) (r : Reading) (room : ℕ)
    (front args : List Token) → ts ≡ front ++ args → Spans room fs ks front → AwaitsLast a args
    → made a t ≡ m → option_map (λ m. settled fs (test m ∷ ks)) m ≡ Some r → IsAt r (ts ++ t ∷ [])
last_at fs ks a ts t None r room front args cut s waits is e = no_reading r _ e
last_at fs ks a ts t (Some m) r room front args cut s waits is e =
    moved _ r _ e (subst (IsAt (settled fs (test m ∷ ks))) (sym (append_assoc front args (t ∷ [])) ∙ ap (λ (l : List Token). l ++ t ∷ []) (sym cut))
    (settled_at s (test m) (args ++ t ∷ []) (is_test (waits t m is))))

-- the name of a field
field_at : (fs : List Frame) (ks : List Key) (ts : List Token) (t : Token) (f : Option (List ℕ)) (r : Reading) (room : ℕ) (front args : List Token)
    → ts ≡ front ++ args → Spans room fs ks front → Awaits needs.Name args
    → string_in t ≡ f → option_map (λ name. reading fs ks (want.Argument (needs.Field name))) f ≡ Some r → IsAt r (ts ++ t ∷ [])
field_at fs ks ts t None r room front args cut s waits is e = no_reading r _ e
field_at fs ks ts t (Some name) r room front args cut s waits is e =
    moved _ r _ e (record { room = room; front = front; args = args ++ t ∷ []; cut = ap (λ (l : List Token). l ++ t ∷ []) cut ∙ append_assoc front args (t ∷ []); spans = s; awaits = waits t name is })

argued_at : (fs : List Frame) (ks : List Key) (a : Argument) (ts : List Token) (t : Token) (r : Reading) (room : ℕ) (front args : List Token)
    → ts ≡ front ++ args → Spans room fs ks front → Awaits a args → argued fs ks a t ≡ Some r → IsAt r (ts ++ t ∷ [])
argued_at fs ks needs.Name ts t r room front args cut s waits e = field_at fs ks ts t (string_in t) r room front args cut s waits refl e
argued_at fs ks (needs.Field name) ts t r room front args cut s waits e = last_at fs ks (needs.Field name) ts t (made (needs.Field name) t) r room front args cut s waits refl e
argued_at fs ks needs.Body ts t r room front args cut s waits e = last_at fs ks needs.Body ts t (made needs.Body t) r room front args cut s waits refl e
argued_at fs ks needs.Text ts t r room front args cut s waits e = last_at fs ks needs.Text ts t (made needs.Text t) r room front args cut s waits refl e
argued_at fs ks needs.Larger ts t r room front args cut s waits e = last_at fs ks needs.Larger ts t (made needs.Larger t) r room front args cut s waits refl e
argued_at fs ks needs.Smaller ts t r room front args cut s waits e = last_at fs ks needs.Smaller ts t (made needs.Smaller t) r room front args cut s waits refl e
argued_at fs ks (needs.Day clock order) ts t r room front args cut s waits e = last_at fs ks (needs.Day clock order) ts t (made (needs.Day clock order) t) r room front args cut s waits refl e

-- one more token
token_at : (fs : List Frame) (ks : List Key) (w : Want) (ts : List Token) (t : Token) (r : Reading) → IsAtBy fs ks w ts → by_want fs ks w t ≡ Some r → IsAt r (ts ++ t ∷ [])
token_at fs ks want.Key ts t r at e = keyed_at at.0 fs ks ts t r at.1 e
token_at fs ks (want.Argument a) ts t r at e = argued_at fs ks a ts t r at.room at.front at.args at.cut at.spans at.awaits e
token_at fs ks want.Nothing ts t r at e = no_reading r _ e

after_at : (q r : Reading) (ts : List Token) (t : Token) → IsAt q ts → after_token q t ≡ Some r → IsAt r (ts ++ t ∷ [])
unfolding after_token
after_at q r ts t at e = token_at q.frames q.keys q.want ts t r at e

later_at : (us ts : List Token) (t : Token) (q r : Reading) (p : Option Reading) → ((vs : List Token) (x : Reading) → IsAt x vs → after_tokens (Some x) us ≡ Some r → IsAt r (vs ++ us))
    → IsAt q ts → after_token q t ≡ p → after_tokens p us ≡ Some r → IsAt r (ts ++ t ∷ us)
later_at us ts t q r None go at is e = no_reading r _ (sym (after_tokens-none us) ∙ e)
later_at us ts t q r (Some p) go at is e = subst (IsAt r) (append_assoc ts (t ∷ []) us) (go (ts ++ t ∷ []) p (after_at q p ts t at is) e)

-- the tokens that were read are those of the reading
tokens_at : (us ts : List Token) (q r : Reading) → IsAt q ts → after_tokens (Some q) us ≡ Some r → IsAt r (ts ++ us)
tokens_at [] ts q r at e = moved q r _ (sym (after_tokens-nil (Some q)) ∙ e) (subst (IsAt q) (sym (append-nil ts)) at)
tokens_at (t ∷ us) ts q r at e = later_at us ts t q r (after_token q t) (λ vs x is g. tokens_at us vs x r is g) at refl (sym (after_tokens-cons q t us) ∙ e)

-- the tokens that were read to a whole criterion spell its key
pub whole_spelled : (ts : List Token) (fs : List Frame) (ks : List Key) → after_tokens (Some start) ts ≡ Some (reading fs ks want.Nothing) → (k : Key) × (ks ≡ k ∷ []) × IsKey 64 k ts
whole_spelled ts fs ks e =
    let at : IsWhole ks ts = tokens_at ts [] start (reading fs ks want.Nothing) (64, in_none refl) e in (at.key, at.one, at.spelled)
