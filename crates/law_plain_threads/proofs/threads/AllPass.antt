-- Captures go one by one, whatever is kept along them.
use Rattle.std.proofs.Common.{◌≡◌, ◌∙◌, ℕ, suc, ◌<◌, Bool, true, false, List, [], ◌∷◌, length, Some, refl, sym, ap, subst, arith}
use Rattle.std.specs.Prelude.{not, if◌then◌else◌}
use Rattle.fr_base.specs.declared.label.Plain.TheVariants as plain
use Rattle.fr_terms.specs.Terms.{Text, Captured}
use Rattle.fr_typing.specs.Kinds.{Kind, whole, gone, copies}
use Rattle.fr_typing.specs.Places.{Env, same_name, read_blocked, write_blocked, put_at, slot_of}
use Rattle.fr_typing.specs.Captures.{Capturer, captured_slot, MayPass, Captures, captures_copy, captures_move}
use Rattle.fr_plain.specs.declared.value.Value.{Value}
use Rattle.fr_plain.specs.declared.value.Value.TheVariants.{Own}
use Rattle.fr_plain.specs.State.{slot_at, with_slot}
use Rattle.fr_plain.specs.MachineThreads.{left_after as slots_after, then_passed, pass}
use Rattle.fr_code.specs.CodeTypes.{SlotPasses, passes, SlotsPass, pass_none, pass_next}
use Rattle.fr_code.specs.Steps.{captured}

-- a slot that a name has is there
named_if : (b : Bool) (below : Env) (x : Text) (n : ℕ) → (slot_of below x ≡ Some n → n < length below) → (if b then Some (length below) else slot_of below x) ≡ Some n → n < suc (length below)
named_if true below x n go h = let e : length below ≡ n = cc in omega (arith, e)
named_if false below x n go h = let l = go h in omega (arith, l)

pub named_below : (e : Env) (x : Text) (n : ℕ) → slot_of e x ≡ Some n → n < length e
named_below [] x n h = cc
named_below (s ∷ below) x n h = named_if (same_name s.name x) below x n (named_below below x n) h

-- the newest slot has this kind
abbrev HeadIs : Env → Kind → Type 0
HeadIs [] k = ⊥
HeadIs (s ∷ n) k = s.part ≡ whole k

-- `Is` is what is kept of the two threads' environments and slots: the giver's, and the new one's
module _ (by : Capturer) (Is : Env → List Value → Env → List Value → Type 0) where
  -- a value was captured that stays, with this kind in the new slot
  pub record Copied (e : Env) (sl : List Value) (n : Env) (new : List Value) (c : Captured) (i : ℕ) (l : Kind) : Type 0 where
    pub value : Value
    pub is : slot_at sl i ≡ Some value
    pub stays : copies l ≡ true
    pub kept : Is e sl (captured_slot c l ∷ n) (value ∷ new)

  -- or one that moved
  pub record Moved (e : Env) (sl : List Value) (n : Env) (new : List Value) (c : Captured) (i : ℕ) (k l : Kind) : Type 0 where
    pub value : Value
    pub is : slot_at sl i ≡ Some value
    pub goes : copies l ≡ false
    pub kept : Is (put_at e (record { slot = i; depth = 0 }) (gone k)) (with_slot sl i (Own plain.Nothing)) (captured_slot c l ∷ n) (value ∷ new)

  -- both are done in each state
  pub record Passing : Type 0 where
    pub copy : (e n : Env) (sl new : List Value) (c : Captured) (i : ℕ) (k l : Kind) → Is e sl n new → MayPass by e c i k l → copies k ≡ true → read_blocked e i ≡ false → Copied e sl n new c i l
    pub move : (e n : Env) (sl new : List Value) (c : Captured) (i : ℕ) (k l : Kind) → Is e sl n new → MayPass by e c i k l → copies k ≡ false → write_blocked e i ≡ false → Moved e sl n new c i k l

  -- one capture is done
  record OnePass (sl : List Value) (new : List Value) (i : ℕ) (take : Bool) (e2 n2 : Env) : Type 0 where
    value : Value
    is : slot_at sl i ≡ Some value
    kept : Is e2 (slots_after take sl i) n2 (value ∷ new)

  one_pass : Passing → (e n e2 n2 : Env) (sl new : List Value) (c : Captured) (i : ℕ) (take : Bool) → Is e sl n new → Captures by e n c e2 n2 → slot_of e c.name ≡ Some i → (z : Kind) → HeadIs n2 z → take ≡ not (copies z) → OnePass sl new i take e2 n2
  one_pass p e n _ _ sl new c i take st (captures_copy {s = j} {k = k} {l = l} may copied free fresh) at z head way =
      let same : j ≡ i = let f : Some j ≡ Some i = sym may.is.named ∙ at in cc in
      let same_kind : l ≡ z = cc in
      let d = p.copy e n sl new c i k l st (subst (λ b. MayPass by e c b k l) same may) copied (ap (read_blocked e) (sym same) ∙ free) in
      record { value = d.value; is = d.is; kept = subst (λ b. Is e (slots_after b sl i) (captured_slot c l ∷ n) (d.value ∷ new)) (sym (way ∙ ap (λ b. not (copies b)) (sym same_kind) ∙ ap not d.stays)) d.kept }
  one_pass p e n _ _ sl new c i take st (captures_move {s = j} {k = k} {l = l} may moves free fresh) at z head way =
      let same : j ≡ i = let f : Some j ≡ Some i = sym may.is.named ∙ at in cc in
      let same_kind : l ≡ z = cc in
      let d = p.move e n sl new c i k l st (subst (λ b. MayPass by e c b k l) same may) moves (ap (write_blocked e) (sym same) ∙ free) in
      record {
        value = d.value;
        is = d.is;
        kept = subst (λ b. Is (put_at e (record { slot = j; depth = 0 }) (gone k)) (slots_after b sl i) (captured_slot c l ∷ n) (d.value ∷ new)) (sym (way ∙ ap (λ b. not (copies b)) (sym same_kind) ∙ ap not d.goes))
            (subst (λ b. Is (put_at e (record { slot = b; depth = 0 }) (gone k)) (with_slot sl i (Own plain.Nothing)) (captured_slot c l ∷ n) (d.value ∷ new)) (sym same) d.kept);
      }

  -- all of a list are
  pub record AllPass (sl new : List Value) (cs : List (ℕ × Bool)) (e2 n2 : Env) : Type 0 where
    pub left : List Value
    pub news : List Value
    pub is : pass (captured cs) sl new ≡ Some (record { left = left; new = news })
    pub kept : Is e2 left n2 news

  pub all_pass : Passing → (e n e2 n2 : Env) (sl new : List Value) (cs : List (ℕ × Bool)) → Is e sl n new → SlotsPass by e n cs e2 n2 → AllPass sl new cs e2 n2
  all_pass p e n _ _ sl new _ st pass_none = record { left = sl; news = new; is = refl; kept = st }
  all_pass p e n e2 n2 sl new _ st (pass_next {e1 = e1} {n1 = n1} {x = x} {xs = xs} one rest) =
      let d = first e n x e1 n1 sl new st one in
      let r = all_pass p e1 n1 e2 n2 (slots_after x.1 sl x.0) (d.value ∷ new) xs d.kept rest in
      record { left = r.left; news = r.news; is = ap (λ o. then_passed o (λ v. pass (captured xs) (slots_after x.1 sl x.0) (v ∷ new))) d.is ∙ r.is; kept = r.kept }
    where
      first : (e n : Env) (x : ℕ × Bool) (e1 n1 : Env) (sl new : List Value) → Is e sl n new → SlotPasses by e n x e1 n1 → OnePass sl new x.0 x.1 e1 n1
      first e n _ _ _ sl new st (passes {e1 = e1} {n1 = n1} {s = z} {i = i} {take = take} {k = q} c at cap part way) = one_pass p e n e1 (z ∷ n1) sl new c i take st cap at q part way
