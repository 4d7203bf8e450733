-- The servers of a start, one after another.
use Rattle.std.proofs.Common.{◌≡◌, ℕ, zero, suc, ◌+◌, ◌<◌, ◌≤◌, ◌^◌, List, [], ◌∷◌, ◌++◌, length, take, Some, refl, sym, ap, subst, ◌∙◌, arith}
use Rattle.std.specs.Prelude.{slice_get}
use Rattle.fr_base.specs.declared.instruction.Instr.{Instr}
use Rattle.fr_base.specs.declared.settings.Options.{Options}
use Rattle.server_model.specs.Servers.{Server, server_at, empty_servers, with_main, start_of}
use Rattle.server_core.specs.Servers.{ServerView}
use Rattle.fr_syntax.specs.Meanings.{term_of}
use Rattle.fr_plain.specs.Resolve.{program}
use Rattle.law_plain_table.specs.Bare.{bare}
use Rattle.law_plain_table.specs.CodeOf.{code_of}
use Rattle.borrow_check.specs.Programs.{Program}
use Rattle.cluster_core.specs.Views.{states, events_in, code_in, options_in, cluster_of, AreNumbered, AllKeep, AreServersOf}
use Rattle.cluster_core.specs.Handing.{NoneSent}
use Rattle.cluster_core.proofs.RowLemmas.{stands, states_long}

numbered_from : (o : Options) (n m : ℕ) → AreNumbered n (empty_servers o n m)
numbered_from o n zero = tt
numbered_from o n (suc m) = (refl, numbered_from o (n + 1) m)

numbered_main : (n : ℕ) (ss : List Server) → AreNumbered n ss → AreNumbered n (with_main ss)
numbered_main n [] a = tt
numbered_main n (s ∷ ss) a = a

pub start_numbered : (code : List Instr) (o : Options) → AreNumbered 0 (start_of code o).servers
start_numbered code o = numbered_main 0 (empty_servers o 0 o.servers) (numbered_from o 0 o.servers)

long_from : (o : Options) (n m : ℕ) → length (empty_servers o n m) ≡ m
long_from o n zero = refl
long_from o n (suc m) = ap suc (long_from o (n + 1) m)

long_main : (ss : List Server) → length (with_main ss) ≡ length ss
long_main [] = refl
long_main (s ∷ ss) = refl

pub start_long : (code : List Instr) (o : Options) → length (start_of code o).servers ≡ o.servers
start_long code o = long_main (empty_servers o 0 o.servers) ∙ long_from o 0 o.servers

none_done : (o : Options) (n m : ℕ) → events_in (empty_servers o n m) ≡ 0
none_done o n zero = refl
none_done o n (suc m) = omega (arith, none_done o (n + 1) m)

main_done : (ss : List Server) → events_in (with_main ss) ≡ events_in ss
main_done [] = refl
main_done (s ∷ ss) = refl

pub start_done : (code : List Instr) (o : Options) → events_in (start_of code o).servers ≡ 0
start_done code o = main_done (empty_servers o 0 o.servers) ∙ none_done o 0 o.servers

-- one more of a list
one_more : {X : Type 0} (xs : List X) (n : ℕ) (x : X) → slice_get xs n ≡ Some x → take n xs ++ x ∷ [] ≡ take (suc n) xs
one_more [] n x e = absurd (cc e)
one_more (y ∷ xs) zero x e = let same : x ≡ y = cc in ap (λ z. z ∷ []) same
one_more (y ∷ xs) (suc n) x e = ap (λ l. y ∷ l) (one_more xs n x e)

states_push : (vs : List ServerView) (v : ServerView) → states (vs ++ v ∷ []) ≡ states vs ++ v.state ∷ []
states_push [] v = refl
states_push (u ∷ vs) v = ap (λ l. u.state ∷ l) (states_push vs v)

-- the next server of the start
pub next_server : (code : List Instr) (o : Options) (vs : List ServerView) (v : ServerView) (n : ℕ) → states vs ≡ take n (start_of code o).servers → server_at (start_of code o).servers n ≡ Some v.state
    → states (vs ++ v ∷ []) ≡ take (n + 1) (start_of code o).servers
next_server code o vs v n e h =
    let ss = (start_of code o).servers in
    let there : slice_get ss n ≡ Some v.state = sym (stands n ss (start_numbered code o)) ∙ h in
    let m : suc n ≡ n + 1 = omega arith in
    states_push vs v ∙ ap (λ l. l ++ v.state ∷ []) e ∙ one_more ss n v.state there ∙ ap (λ j. take j ss) m

pub kept_push : (c : List Instr) (o : Options) (vs : List ServerView) (v : ServerView) → AllKeep c o vs → v.code ≡ c → v.options ≡ o → AllKeep c o (vs ++ v ∷ [])
kept_push c o [] v a e f = ((e, f), tt)
kept_push c o (u ∷ vs) v a e f = (a.0, kept_push c o vs v a.1 e f)

none_sent : (o : Options) (n m : ℕ) → NoneSent (empty_servers o n m)
none_sent o n zero = tt
none_sent o n (suc m) = (refl, none_sent o (n + 1) m)

main_sent : (ss : List Server) → NoneSent ss → NoneSent (with_main ss)
main_sent [] a = tt
main_sent (s ∷ ss) a = a

-- no message stands in an outbox at the start
pub start_sent : (code : List Instr) (o : Options) → NoneSent (start_of code o).servers
start_sent code o = main_sent (empty_servers o 0 o.servers) (none_sent o 0 o.servers)

take_whole : {X : Type 0} (n : ℕ) (xs : List X) → length xs ≤ n → take n xs ≡ xs
take_whole zero [] l = refl
take_whole (suc n) [] l = refl
take_whole zero (x ∷ xs) l = absurd (omega (arith, l))
take_whole (suc n) (x ∷ xs) l = ap (λ l. x ∷ l) (take_whole n xs (omega (arith, l)))

pub all_servers : (code : List Instr) (o : Options) (n : ℕ) → o.servers ≤ n → take n (start_of code o).servers ≡ (start_of code o).servers
all_servers code o n l = take_whole n (start_of code o).servers (omega (arith, start_long code o, l))

first_code : (code : List Instr) (o : Options) (vs : List ServerView) → 0 < length vs → AllKeep code o vs → (code_in vs ≡ code) × (options_in vs ≡ o)
first_code code o [] l a = absurd (omega (arith, l))
first_code code o (v ∷ vs) l a = a.0

-- the servers of the start are those of a run
pub record Starts (p : Program) (code : List Instr) (o : Options) (vs : List ServerView) : Type 0 where
  pub run : AreServersOf p vs
  pub few : events_in (states vs) ≤ 1000000000
  pub code_is : code_in vs ≡ code
  pub start : cluster_of vs ≡ start_of code o

pub starts : (p : Program) (code : List Instr) (o : Options) (vs : List ServerView) → states vs ≡ (start_of code o).servers → AllKeep code o vs → 1 ≤ o.servers → o.servers ≤ 64 → bare code ≡ code_of (program (term_of p.arena)) → length code ≤ 2 ^ 30 → Starts p code o vs
starts p code o vs e kept some few is short =
    let long : length vs ≡ o.servers = sym (states_long vs) ∙ ap length e ∙ start_long code o in
    let first = first_code code o vs (omega (arith, long, some)) kept in record {
      run = record {
        numbered = subst (AreNumbered 0) (sym e) (start_numbered code o);
        alike = subst (λ q. AllKeep (code_in vs) q vs) (sym first.1) (subst (λ q. AllKeep q o vs) (sym first.0) kept);
        count = long ∙ ap (λ (q : Options). q.servers) (sym first.1);
        some = omega (arith, long, some);
        few = omega (arith, long, few);
        code = ap bare first.0 ∙ is;
        short = omega (arith, ap length first.0, short);
      };
      few = omega (arith, ap events_in e, start_done code o);
      code_is = first.0;
      start = ap (λ c. record { code = c; options = options_in vs; servers = states vs }) first.0 ∙ ap (λ q. record { code = code; options = q; servers = states vs }) first.1 ∙ ap (λ l. record { code = code; options = o; servers = l }) e;
    }
