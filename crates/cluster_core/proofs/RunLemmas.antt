-- What is told of a run's servers stays, and each is found at its number.
use Rattle.std.proofs.Common.{◌≡◌, ℕ, zero, suc, List, [], ◌∷◌, length, Some, None, sym, ap, subst, ◌∙◌, arith}
use Rattle.std.specs.Prelude.{slice_get, OnErr, Result, Ok, Err}
use Rattle.fr_base.specs.declared.instruction.Instr.{Instr}
use Rattle.fr_base.specs.declared.settings.Options.{Options}
use Rattle.law_plain_table.specs.Bare.{bare}
use Rattle.borrow_check.specs.Programs.{Program}
use Rattle.server_model.specs.Servers.{Server, server_at}
use Rattle.server_core.specs.Servers.{ServerView}
use Rattle.cluster_core.specs.Views.{states, code_in, options_in, cluster_of, AllKeep, AreServersOf}
use Rattle.cluster_core.specs.Rows.{IsSameRun}
use Rattle.cluster_core.proofs.RowLemmas.{stands, states_at, states_past}

-- the same run goes on
pub goes_on : (p : Program) (vs ws : List ServerView) → IsSameRun vs ws → AreServersOf p vs → AreServersOf p ws
goes_on p vs ws same are = record {
  numbered = same.numbered 0 are.numbered;
  alike = subst (λ o. AllKeep (code_in ws) o ws) (sym same.options) (subst (λ c. AllKeep c (options_in vs) ws) (sym same.code) (same.alike (code_in vs) (options_in vs) are.alike));
  count = same.long ∙ are.count ∙ ap (λ (o : Options). o.servers) (sym same.options);
  some = omega (arith, same.long, are.some);
  few = omega (arith, same.long, are.few);
  code = ap bare same.code ∙ are.code;
  short = omega (arith, ap length same.code, are.short);
}

pub keeps_at : (vs : List ServerView) (n : ℕ) (v : ServerView) (code : List Instr) (o : Options) → AllKeep code o vs → slice_get vs n ≡ Some v → (v.code ≡ code) × (v.options ≡ o)
keeps_at [] n v code o a e = absurd (cc e)
keeps_at (x ∷ vs) zero v code o a e = let same : x ≡ v = cc in subst (λ (y : ServerView). (y.code ≡ code) × (y.options ≡ o)) same a.0
keeps_at (x ∷ vs) (suc n) v code o a e = keeps_at vs n v code o a.1 e

-- the server at a place
pub server_there : (p : Program) (vs : List ServerView) (n : ℕ) (v : ServerView) → AreServersOf p vs → slice_get vs n ≡ Some v → server_at (states vs) n ≡ Some v.state
server_there p vs n v are e = stands n (states vs) are.numbered ∙ states_at vs n v e

pub no_server : (p : Program) (vs : List ServerView) (n : ℕ) → AreServersOf p vs → slice_get vs n ≡ None → server_at (states vs) n ≡ None
no_server p vs n are e = stands n (states vs) are.numbered ∙ states_past vs n e

-- the cluster that the same servers are, with other states
pub cluster_with : (vs ws : List ServerView) (ss : List Server) → IsSameRun vs ws → states ws ≡ ss → cluster_of ws ≡ record (cluster_of vs) { servers = ss }
cluster_with vs ws ss same e =
    ap (λ c. record { code = c; options = options_in ws; servers = states ws }) same.code
    ∙ ap (λ o. record { code = code_in vs; options = o; servers = states ws }) same.options
    ∙ ap (λ l. record { code = code_in vs; options = options_in vs; servers = l }) e

pub on_err : {T E : Type 0} (P : Type 0) (r : Result T E) → P → OnErr r P
on_err P (Ok x) p = tt
on_err P (Err e) p = p
