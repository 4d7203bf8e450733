-- Settling keeps what stands in the code for a term.
use Rattle.std.proofs.Common.{◌≡◌, ℕ, zero, suc, List, [], Some, refl, sym, ap, ◌∙◌, subst}
use Rattle.std.specs.Prelude.{slice_get}
use Rattle.fr_sound.specs.Below.fr_base.declared.instruction.Operand.{Operand}
use Rattle.fr_sound.specs.Below.fr_base.declared.instruction.Instr.{Instr}
use Rattle.fr_sound.specs.Below.fr_base.declared.instruction.Instr.TheVariants as instr
use Rattle.fr_sound.specs.Below.fr_plain.declared.value.Value.{Value}
use Rattle.fr_sound.specs.Below.fr_plain.Run.{Run, temp, unit_c, number, read, borrow, box_r, arith, bind, print, assign, block, spawn, join_r, mutex_r, dup, lock, locked, par, par_end, Parts, last, more, Now, going, constant, temporary, now, settle, settle_parts, settle_more, settle_right, close_last, close}
use Rattle.fr_sound.proofs.Settling.{now_settle}
use Rattle.fr_code.specs.StandsFor.{operand_of, operand_of_last, temps_in, temps_in_parts, IsSource, AreSource, Later, LaterParts, Discards, DropsAt, Ends, At, AtParts, Stands, IsCodeFrom}
use Rattle.fr_code.specs.Laws.{SettlingStands}
use Rattle.fr_code.proofs.Finished.{source_temps, OperandNow, operand_now, Finished, finished}

module _ (code : List Instr) where
  -- the second term stands where the first does
  pub record Keeps (p q : ℕ) (r s : Run) : Type 0 where
    pub at : At code p s q
    pub temps : (ts : List Value) → temps_in s ts ≡ temps_in r ts
    pub operand : operand_of s ≡ operand_of r

  -- and so with items
  pub record KeepsParts (p q : ℕ) (is js : Parts) : Type 0 where
    pub at : AtParts code p js q
    pub temps : (ts : List Value) → temps_in_parts js ts ≡ temps_in_parts is ts
    pub operand : operand_of_last js ≡ operand_of_last is

  -- a term with one part and one operand
  wrapped : (F : Run → Run) (I : Operand → Instr) (r s : Run) (p m q : ℕ) → ((x : Run) → At code p x m → slice_get code m ≡ Some (I (operand_of x)) → At code p (F x) q) → ((x : Run) (ts : List Value) → temps_in (F x) ts ≡ temps_in x ts) → operand_of (F s) ≡ operand_of (F r)
      → slice_get code m ≡ Some (I (operand_of r)) → Keeps p m r s → Keeps p q (F r) (F s)
  wrapped F I r s p m q form temps same i k = record { at = form s k.at (i ∙ ap (λ o. Some (I o)) (sym k.operand)); temps = λ ts. temps s ts ∙ k.temps ts ∙ sym (temps r ts); operand = same }

  -- a right operand settles once the left one is done
  right_keeps : (n : Now) (b rest : Run) (m q : ℕ) → At code m b q → Keeps m q b rest → Keeps m q b (settle_right n b rest)
  right_keeps going b rest m q h k = record { at = h; temps = λ ts. refl; operand = refl }
  right_keeps (constant v) b rest m q h k = k
  right_keeps (temporary v) b rest m q h k = k

  right_later : (n : Now) (b rest : Run) → Later n (IsSource b) → Later n (IsSource (settle_right n b rest))
  right_later going b rest h = h
  right_later (constant v) b rest h = tt
  right_later (temporary v) b rest h = tt

  -- a block that has dropped its slots is its last term
  close_last_keeps : (n : Now) (r : Run) (p m : ℕ) → At code p r m → Keeps p m r (close_last n r)
  close_last_keeps going r p m h = record { at = (m, h, refl); temps = λ ts. refl; operand = refl }
  close_last_keeps (constant v) r p m h = record { at = h; temps = λ ts. refl; operand = refl }
  close_last_keeps (temporary v) r p m h = record { at = h; temps = λ ts. refl; operand = refl }

  close_keeps : (k : ℕ) (is js : Parts) (p m q : ℕ) → KeepsParts p m is js → DropsAt code m k q → Keeps p q (block k is) (close k js)
  close_keeps zero is (last r) p m q k d =
      let c = close_last_keeps (now r) r p m k.at in
      record { at = subst (λ z. At code p (close_last (now r) r) z) (sym d) c.at; temps = λ ts. c.temps ts ∙ k.temps ts; operand = c.operand ∙ k.operand }
  close_keeps zero is (more r js) p m q k d = record { at = (m, k.at, d); temps = k.temps; operand = k.operand }
  close_keeps (suc n) is js p m q k d = record { at = (m, k.at, d); temps = k.temps; operand = k.operand }

  -- a constant before a `;` vanishes
  more_keeps : (n : Now) (r s : Run) (is js : Parts) (p m l q : ℕ) → now s ≡ n → now s ≡ now r → Keeps p m r s → Discards code (operand_of r) m l → AtParts code l is q → LaterParts (now r) (AreSource is) → KeepsParts l q is js → OperandNow code n (operand_of s) → ((ts : List Value) → Finished code n (temps_in s ts) ts p m)
      → KeepsParts p q (more r is) (settle_more n s is js)
  more_keeps going r s is js p m l q e same k d h src rest o f = record {
    at = (m, l, k.at, subst (λ z. Discards code z m l) (sym k.operand) d, h, subst (λ z. LaterParts z (AreSource is)) (sym same) src);
    temps = λ ts. ap (temps_in_parts is) (k.temps ts);
    operand = refl;
  }
  more_keeps (temporary v) r s is js p m l q e same k d h src rest o f = record {
    at = (m, l, k.at, subst (λ z. Discards code z m l) (sym k.operand) d, h, subst (λ z. LaterParts z (AreSource is)) (sym same) src);
    temps = λ ts. ap (temps_in_parts is) (k.temps ts);
    operand = refl;
  }
  more_keeps (constant v) r s is js p m l q e same k d h src rest o f =
      let at : l ≡ p = o.1 m l (subst (λ z. Discards code z m l) (sym k.operand) d) ∙ (f []).1 in
      record {
        at = subst (λ z. AtParts code z js q) at rest.at;
        temps = λ ts. rest.temps ts ∙ ap (temps_in_parts is) (sym (f ts).0 ∙ k.temps ts);
        operand = rest.operand;
      }

  mutual
    pub keeps : (r : Run) (p q : ℕ) → At code p r q → Keeps p q r (settle r)
    keeps (temp v) p q h = record { at = h; temps = λ ts. refl; operand = refl }
    keeps unit_c p q h = record { at = h; temps = λ ts. refl; operand = refl }
    keeps (number n) p q h = record { at = h; temps = λ ts. refl; operand = refl }
    keeps (read w take) p q h = record { at = h; temps = λ ts. refl; operand = refl }
    keeps (borrow w is_mut) p q h = record { at = h; temps = λ ts. refl; operand = refl }
    keeps (box_r r) p q h = wrapped box_r instr.Box r (settle r) p h.0 q (λ x a i. (h.0, a, i, h.3)) (λ x ts. refl) refl h.2 (keeps r p h.0 h.1)
    keeps (bind r) p q h = wrapped bind instr.Let r (settle r) p h.0 q (λ x a i. (h.0, a, i, h.3)) (λ x ts. refl) refl h.2 (keeps r p h.0 h.1)
    keeps (print r) p q h = wrapped print instr.Print r (settle r) p h.0 q (λ x a i. (h.0, a, i, h.3)) (λ x ts. refl) refl h.2 (keeps r p h.0 h.1)
    keeps (assign w r) p q h = wrapped (assign w) (instr.Assign w) r (settle r) p h.0 q (λ x a i. (h.0, a, i, h.3)) (λ x ts. refl) refl h.2 (keeps r p h.0 h.1)
    keeps (join_r r) p q h = wrapped join_r instr.Join r (settle r) p h.0 q (λ x a i. (h.0, a, i, h.3)) (λ x ts. refl) refl h.2 (keeps r p h.0 h.1)
    keeps (spawn cs r) p q h = record { at = h; temps = λ ts. refl; operand = refl }
    keeps (mutex_r r) p q h = wrapped mutex_r instr.Mutex r (settle r) p h.0 q (λ x a i. (h.0, a, i, h.3)) (λ x ts. refl) refl h.2 (keeps r p h.0 h.1)
    keeps (dup w) p q h = record { at = h; temps = λ ts. refl; operand = refl }
    keeps (lock w r) p q h = record { at = h; temps = λ ts. refl; operand = refl }
    keeps (locked r) p q h = let k = keeps r p h.0 h.1 in record { at = (h.0, k.at, h.2); temps = k.temps; operand = k.operand }
    keeps (par cs a ds b) p q h = record { at = h; temps = λ ts. refl; operand = refl }
    keeps par_end p q h = record { at = h; temps = λ ts. refl; operand = refl }
    keeps (arith f a b) p q h =
        let k = keeps a p h.0 h.2 in
        let n = now (settle a) in
        let c = right_keeps n b (settle b) h.0 h.1 h.3 (keeps b h.0 h.1 h.3) in
        let b2 = settle_right n b (settle b) in
        record {
          at = (h.0, h.1, k.at, c.at, h.4 ∙ ap (λ o. Some (instr.Arith f o (operand_of b))) (sym k.operand) ∙ ap (λ o. Some (instr.Arith f (operand_of (settle a)) o)) (sym c.operand), h.5, right_later n b (settle b) (subst (λ z. Later z (IsSource b)) (sym (now_settle a)) h.6));
          temps = λ ts. c.temps (temps_in (settle a) ts) ∙ ap (temps_in b) (k.temps ts);
          operand = refl;
        }
    keeps (block k is) p q h = close_keeps k is (settle_parts is) p h.0 q (keeps_parts is p h.0 h.1) h.2

    pub keeps_parts : (is : Parts) (p q : ℕ) → AtParts code p is q → KeepsParts p q is (settle_parts is)
    keeps_parts (last r) p q h = let k = keeps r p q h in record { at = k.at; temps = k.temps; operand = k.operand }
    keeps_parts (more r is) p q h =
        let k = keeps r p h.0 h.2 in
        more_keeps (now (settle r)) r (settle r) is (settle_parts is) p h.0 h.1 q refl (now_settle r) k h.3 h.4 h.5 (keeps_parts is h.1 q h.4) (operand_now code (settle r)) (λ ts. finished code (settle r) p h.0 ts k.at)

-- what needs no step in a term has no instruction
pub settling_stands : SettlingStands
settling_stands code p ts r h =
    let k = keeps code r p h.to h.at in
    record { to = h.to; at = k.at; temps = h.temps ∙ sym (k.temps []); over = subst (Ends code h.to) (sym k.operand) h.over }

-- where a thread starts the code stands for its term
pub starts_stand : (code : List Instr) (p : ℕ) (r : Run) → IsCodeFrom code p r → Stands code p [] (settle r)
starts_stand code p r f = settling_stands code p [] r (record { to = f.to; at = f.at; temps = sym (source_temps r [] f.source); over = f.over })
