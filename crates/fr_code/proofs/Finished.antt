-- Terms that are done, and terms in which no step was made: where they stand, and their temporary values.
use Rattle.std.proofs.Common.{◌≡◌, ◌≢◌, ℕ, zero, suc, List, ◌∷◌, Option, refl, sym, ap, ◌∙◌, subst}
use Rattle.std.specs.Prelude.{⊤}
use Rattle.fr_sound.specs.Below.fr_base.declared.instruction.Operand.{Operand}
use Rattle.fr_sound.specs.Below.fr_base.declared.instruction.Operand.TheVariants as operand
use Rattle.fr_sound.specs.Below.fr_base.declared.instruction.Instr.{Instr}
use Rattle.fr_sound.specs.Below.fr_plain.declared.value.Value.{Value}
use Rattle.fr_sound.specs.Below.fr_plain.Run.{Run, temp, unit_c, number, read, borrow, box_r, arith, bind, print, assign, block, spawn, join_r, mutex_r, dup, lock, locked, par, par_end, Parts, last, more, Now, going, constant, temporary, after, at_end, now, now_parts}
use Rattle.fr_code.specs.Steps.{CodeMove, with_operand}
use Rattle.fr_code.specs.StandsFor.{operand_of, operand_of_last, temps_in, temps_in_parts, IsSource, AreSource, Later, LaterParts, Discards, DropsAt, At, AtParts}

-- SOURCES

mutual
  -- a term in which no step was made has no temporary value
  pub source_temps : (r : Run) (ts : List Value) → IsSource r → temps_in r ts ≡ ts
  source_temps (temp v) ts h = absurd h
  source_temps unit_c ts h = refl
  source_temps (number n) ts h = refl
  source_temps (read w take) ts h = refl
  source_temps (borrow w is_mut) ts h = refl
  source_temps (box_r r) ts h = source_temps r ts h
  source_temps (arith f a b) ts h = ap (temps_in b) (source_temps a ts h.0) ∙ source_temps b ts h.1
  source_temps (bind r) ts h = source_temps r ts h
  source_temps (print r) ts h = source_temps r ts h
  source_temps (assign w r) ts h = source_temps r ts h
  source_temps (block k is) ts h = sources_temps is ts h
  source_temps (spawn cs r) ts h = refl
  source_temps (join_r r) ts h = source_temps r ts h
  source_temps (mutex_r r) ts h = source_temps r ts h
  source_temps (dup w) ts h = refl
  source_temps (lock w r) ts h = refl
  source_temps (locked r) ts h = absurd h
  source_temps (par cs a ds b) ts h = refl
  source_temps par_end ts h = absurd h

  -- and so with items
  pub sources_temps : (is : Parts) (ts : List Value) → AreSource is → temps_in_parts is ts ≡ ts
  sources_temps (last r) ts h = source_temps r ts h
  sources_temps (more r is) ts h = ap (temps_in_parts is) (source_temps r ts h.0) ∙ sources_temps is ts h.1

-- what is so at all times is so later
pub later : (n : Now) (P : Type 0) → P → Later n P
later going P h = h
later (constant v) P h = tt
later (temporary v) P h = tt

pub later_parts : (n : Now) (P : Type 0) → P → LaterParts n P
later_parts going P h = h
later_parts (constant v) P h = tt
later_parts (temporary v) P h = h

-- while a term goes on, what is so later is so
pub is_later : (n : Now) (P : Type 0) → n ≡ going → Later n P → P
is_later going P e h = h
is_later (constant v) P e h = absurd cc
is_later (temporary v) P e h = absurd cc

-- once a term is done nothing is asked later
pub done_later : (n : Now) (P : Type 0) → n ≢ going → Later n P
done_later going P ne = absurd (ne refl)
done_later (constant v) P ne = tt
done_later (temporary v) P ne = tt

-- OPERANDS

-- a constant's operand is that constant, and is no step before a `;`; a temporary value is popped
abbrev pub OperandNow : List Instr → Now → Operand → Type 0
OperandNow code going o = ⊤
OperandNow code (constant v) o = ((us : List Value) (go : Value → List Value → Option CodeMove) → with_operand o us go ≡ go v us) × ((m n : ℕ) → Discards code o m n → n ≡ m) × ((m : ℕ) → Discards code o m m)
OperandNow code (temporary v) o = o ≡ operand.Pop

module _ (code : List Instr) where
  operand_after : (n n2 : Now) (o : Operand) → OperandNow code n2 o → OperandNow code (after n n2) o
  operand_after going n2 o h = tt
  operand_after (constant v) n2 o h = h
  operand_after (temporary v) n2 o h = tt

  operand_at_end : (k : ℕ) (n : Now) (o : Operand) → OperandNow code n o → OperandNow code (at_end k n) o
  operand_at_end zero n o h = h
  operand_at_end (suc k) n o h = tt

  mutual
    pub operand_now : (r : Run) → OperandNow code (now r) (operand_of r)
    operand_now (temp v) = refl
    operand_now unit_c = (λ us go. refl, λ m n e. e, λ m. refl)
    operand_now (number n) = (λ us go. refl, λ m n e. e, λ m. refl)
    operand_now (block k is) = operand_at_end k (now_parts is) (operand_of_last is) (operand_last_now is)
    operand_now _ = tt

    pub operand_last_now : (is : Parts) → OperandNow code (now_parts is) (operand_of_last is)
    operand_last_now (last r) = operand_now r
    operand_last_now (more r is) = operand_after (now r) (now_parts is) (operand_of_last is) (operand_last_now is)

  -- DONE TERMS

  -- a done term has no code, and its temporary value on top
  abbrev pub Finished : Now → List Value → List Value → ℕ → ℕ → Type 0
  Finished going us ts p q = ⊤
  Finished (constant v) us ts p q = (us ≡ ts) × (q ≡ p)
  Finished (temporary v) us ts p q = (us ≡ v ∷ ts) × (q ≡ p)

  finished_end : (k : ℕ) (n : Now) (us ts : List Value) (p m q : ℕ) → Finished n us ts p m → DropsAt code m k q → Finished (at_end k n) us ts p q
  finished_end zero n us ts p m q f d = subst (Finished n us ts p) (sym d) f
  finished_end (suc k) n us ts p m q f d = tt

  finished_more : (n : Now) (is : Parts) (o : Operand) (us ts : List Value) (p m l q : ℕ) → OperandNow code n o → Finished n us ts p m → Discards code o m l → Finished (now_parts is) (temps_in_parts is ts) ts l q
      → Finished (after n (now_parts is)) (temps_in_parts is us) ts p q
  finished_more going is o us ts p m l q e f d g = tt
  finished_more (constant v) is o us ts p m l q e f d g =
      let at : l ≡ p = e.1 m l d ∙ f.1 in
      subst (λ x. Finished (now_parts is) (temps_in_parts is x) ts p q) (sym f.0) (subst (λ x. Finished (now_parts is) (temps_in_parts is ts) ts x q) at g)
  finished_more (temporary v) is o us ts p m l q e f d g = tt

  mutual
    pub finished : (r : Run) (p q : ℕ) (ts : List Value) → At code p r q → Finished (now r) (temps_in r ts) ts p q
    finished (temp v) p q ts h = (refl, h)
    finished unit_c p q ts h = (refl, h)
    finished (number n) p q ts h = (refl, h)
    finished (block k is) p q ts h = finished_end k (now_parts is) (temps_in_parts is ts) ts p h.0 q (finished_parts is p h.0 ts h.1) h.2
    finished _ p q ts h = tt

    pub finished_parts : (is : Parts) (p q : ℕ) (ts : List Value) → AtParts code p is q → Finished (now_parts is) (temps_in_parts is ts) ts p q
    finished_parts (last r) p q ts h = finished r p q ts h
    finished_parts (more r is) p q ts h = finished_more (now r) is (operand_of r) (temps_in r ts) ts p h.0 h.1 q (operand_now r) (finished r p h.0 ts h.2) h.3 (finished_parts is h.1 q ts h.4)

  -- a done term stands anywhere
  abbrev pub StandsAnywhere : Now → ((p : ℕ) → Type 0) → Type 0
  StandsAnywhere going A = ⊤
  StandsAnywhere (constant v) A = (p : ℕ) → A p
  StandsAnywhere (temporary v) A = (p : ℕ) → A p

  anywhere_end : (k : ℕ) (n : Now) (is : Parts) → StandsAnywhere n (λ p. AtParts code p is p) → StandsAnywhere (at_end k n) (λ p. At code p (block k is) p)
  anywhere_end zero going is h = tt
  anywhere_end zero (constant v) is h = λ p. (p, h p, refl)
  anywhere_end zero (temporary v) is h = λ p. (p, h p, refl)
  anywhere_end (suc k) n is h = tt

  anywhere_more : (n n2 : Now) (r : Run) (is : Parts) → now r ≡ n → OperandNow code n (operand_of r) → StandsAnywhere n (λ p. At code p r p) → StandsAnywhere n2 (λ p. AtParts code p is p) → StandsAnywhere (after n n2) (λ p. AtParts code p (more r is) p)
  anywhere_more going n2 r is e o a b = tt
  anywhere_more (temporary v) n2 r is e o a b = tt
  anywhere_more (constant v) going r is e o a b = tt
  anywhere_more (constant v) (constant w) r is e o a b = λ p. (p, p, a p, o.2 p, b p, subst (λ n. LaterParts n (AreSource is)) (sym e) tt)
  anywhere_more (constant v) (temporary w) r is e o a b = λ p. (p, p, a p, o.2 p, b p, subst (λ n. LaterParts n (AreSource is)) (sym e) tt)

  mutual
    pub anywhere : (r : Run) → StandsAnywhere (now r) (λ p. At code p r p)
    anywhere (temp v) = λ p. refl
    anywhere unit_c = λ p. refl
    anywhere (number n) = λ p. refl
    anywhere (block k is) = anywhere_end k (now_parts is) is (parts_anywhere is)
    anywhere _ = tt

    pub parts_anywhere : (is : Parts) → StandsAnywhere (now_parts is) (λ p. AtParts code p is p)
    parts_anywhere (last r) = anywhere r
    parts_anywhere (more r is) = anywhere_more (now r) (now_parts is) r is refl (operand_now r) (anywhere r) (parts_anywhere is)

  pub done_stands : (n : Now) (A : ℕ → Type 0) → n ≢ going → StandsAnywhere n A → (p : ℕ) → A p
  done_stands going A ne h = absurd (ne refl)
  done_stands (constant v) A ne h = h
  done_stands (temporary v) A ne h = h
