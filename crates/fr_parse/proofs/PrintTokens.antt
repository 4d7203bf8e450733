-- The tokens of texts with blanks between them.
use Rattle.std.proofs.Common.{◌≡◌, ℕ, ◌+◌, ◌<◌, Bool, true, false, cond, List, [], ◌∷◌, ◌++◌, length, length-append, take, drop, refl, sym, ap, ◌∙◌, subst, arith, codes}
use Rattle.std.specs.Prelude.{⊤, is_some}
use Rattle.std.specs.List.{prefix_len, list_any}
use Rattle.std.specs.Str.{bytes_eq}
use Rattle.std.proofs.Math.Seq.{take-append_seam, drop-append_seam}
use Rattle.std.proofs.lemmas.List.{append_assoc, get_or_append_left}
use Rattle.fr_terms.specs.Terms.{Text}
use Rattle.fr_syntax.specs.Text.{blanks, text_len, head_is}
use Rattle.fr_syntax.specs.Tokens.{unblanked, first_text, after_text, kind_at, names_after, Leads}
use Rattle.fr_syntax.specs.Names.{with_text}
use Rattle.fr_syntax.specs.Words.{fixed_of, is_letter, is_blank}
use Rattle.fr_syntax.specs.declared.token.Token.{Token}
use Rattle.fr_parse.specs.Canonical.{joined}
use Rattle.fr_parse.proofs.PrintWords.{Fit}
use Rattle.fr_parse.proofs.PrintTexts.{Extends, IsText}

-- these are texts of tokens
abbrev pub AreTexts : List Text → Type 0
AreTexts [] = ⊤
AreTexts (w ∷ ws) = IsText w × AreTexts ws

-- and so are these and those
pub texts_then : (ws vs : List Text) → AreTexts ws → AreTexts vs → AreTexts (ws ++ vs)
texts_then [] vs h more = more
texts_then (w ∷ ws) vs h more = (h.0, texts_then ws vs h.1 more)

-- texts behind a text, each behind a space, and a newline
abbrev pub behind : List Text → List ℕ
behind [] = codes "\n"
behind (w ∷ ws) = 32 ∷ w ++ behind ws

-- these bytes are the joined texts and the newline
pub joined_behind : (w : Text) (ws : List Text) → joined (w ∷ ws) ++ codes "\n" ≡ w ++ behind ws
joined_behind w [] = refl
joined_behind w (v ∷ ws) =
    append_assoc (w ++ codes " ") (joined (v ∷ ws)) (codes "\n") ∙ ap (λ l. w ++ codes " " ++ l) (joined_behind v ws) ∙ append_assoc w (codes " ") (v ++ behind ws)

-- a text is the longest that comes first
whole : (w : Text) (ws : List Text) → IsText w → text_len (w ++ behind ws) ≡ length w
whole w [] h = h.whole 10 [] refl refl
whole w (v ∷ ws) h = h.whole 32 (v ++ behind ws) refl refl

-- no blank comes before it
no_blanks : (w : Text) (rest : List ℕ) → 0 < length w → head_is is_blank w ≡ false → blanks (w ++ rest) ≡ 0
no_blanks [] rest some h = absurd (omega (arith, some))
no_blanks (c ∷ w) rest some h = ap (λ b. cond b (1 + prefix_len is_blank (w ++ rest)) 0) h

-- so it stands first
unblanked_text : (w : Text) (rest : List ℕ) → IsText w → unblanked (w ++ rest) ≡ w ++ rest
unblanked_text w rest h = ap (λ n. drop n (w ++ rest)) (no_blanks w rest h.some h.start)

-- and one space alone where it is behind another
unblanked_behind : (w : Text) (rest : List ℕ) → IsText w → unblanked (32 ∷ w ++ rest) ≡ w ++ rest
unblanked_behind w rest h = ap (λ n. drop (1 + n) (32 ∷ w ++ rest)) (no_blanks w rest h.some h.start)

-- names that come later change none that are there
pub extends_refl : (names : List Text) → Extends names names
extends_refl names = record { longer = omega arith; same = λ n lt. refl }

-- later ones are later still
pub extends_trans : (a b c : List Text) → Extends a b → Extends b c → Extends a c
extends_trans a b c x y = record { longer = omega (arith, x.longer, y.longer); same = λ n lt. y.same n (omega (arith, lt, x.longer)) ∙ x.same n lt }

-- the tokens of these bytes, which are these texts and blanks: they lead to a last newline, and fit the texts among all the names
pub record IsLed (names : List Text) (place : ℕ) (bytes : List ℕ) (ws : List Text) : Type 0 where
  pub tokens : List Token
  pub all : List Text
  pub end : ℕ
  pub leads : Leads names place bytes tokens all end (codes "\n")
  pub extends : Extends names all
  pub fit : (more : List Token) → Fit all ws (tokens ++ more) more

-- one of two lists of names
extends_cond : (b : Bool) (names x y : List Text) → Extends names x → Extends names y → Extends names (cond b x y)
extends_cond true names x y h k = h
extends_cond false names x y h k = k

-- nor does one more
extends_more : (names : List Text) (w : Text) → Extends names (names ++ w ∷ [])
extends_more names w = record { longer = omega (arith, length-append names (w ∷ [])); same = λ n lt. get_or_append_left names (w ∷ []) [] n lt }

-- nor do the names after a text
pub after_extends : (names : List Text) (w : Text) → Extends names (names_after names w)
after_extends names w =
    extends_cond (is_some (fixed_of w)) names names (cond (head_is is_letter w) (with_text names w) names) (extends_refl names)
    (extends_cond (head_is is_letter w) names (with_text names w) names (extends_cond (list_any (bytes_eq w) names) names names (names ++ w ∷ []) (extends_refl names) (extends_more names w)) (extends_refl names))

-- a text first, and the others behind it
one_led : (names : List Text) (place : ℕ) (bytes : List ℕ) (w : Text) (ws : List Text) → unblanked bytes ≡ w ++ behind ws → IsText w → ((n : List Text) (p : ℕ) → IsLed n p (behind ws) ws) → IsLed names place bytes (w ∷ ws)
one_led names place bytes w ws e h next =
    let text : first_text bytes ≡ w = ap (λ u. take (text_len u) u) e ∙ ap (λ n. take n (w ++ behind ws)) (whole w ws h) ∙ take-append_seam w (behind ws) in
    let after : after_text bytes ≡ behind ws = ap (λ u. drop (text_len u) u) e ∙ ap (λ n. drop n (w ++ behind ws)) (whole w ws h) ∙ drop-append_seam w (behind ws) in
    let start = place + blanks bytes in
    let known = h.known names start in
    let t : Token = record { kind = known.kind; start = start; end = start + length (first_text bytes) } in
    let more = next (names_after names w) t.end in
    record {
      tokens = t ∷ more.tokens;
      all = more.all;
      end = more.end;
      leads = (
        record { some = subst (λ x. 0 < length x) (sym text) h.some; start = refl; end = refl; kind = ap (kind_at names start) text ∙ known.is },
        subst (λ x. Leads (names_after names x) t.end (after_text bytes) more.tokens more.all more.end (codes "\n")) (sym text)
            (subst (λ b. Leads (names_after names w) t.end b more.tokens more.all more.end (codes "\n")) (sym after) more.leads),
      );
      extends = extends_trans names (names_after names w) more.all (after_extends names w) more.extends;
      fit = λ rest. (known.fits more.all more.extends, more.fit rest);
    }

-- texts behind a text
led_behind : (ws : List Text) → AreTexts ws → (names : List Text) (place : ℕ) → IsLed names place (behind ws) ws
led_behind [] h names place = record { tokens = []; all = names; end = place; leads = (refl, refl, refl); extends = extends_refl names; fit = λ rest. refl }
led_behind (w ∷ ws) h names place = one_led names place (behind (w ∷ ws)) w ws (unblanked_behind w (behind ws) h.0) h.0 (led_behind ws h.1)

-- all texts
pub led : (w : Text) (ws : List Text) → AreTexts (w ∷ ws) → IsLed [] 0 (w ++ behind ws) (w ∷ ws)
led w ws h = one_led [] 0 (w ++ behind ws) w ws (unblanked_text w (behind ws) h.0) h.0 (led_behind ws h.1)
