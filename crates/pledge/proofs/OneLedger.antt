-- One ledger, of the code: the ledger's theorems said of structs and lent words.
use Rattle.std.specs.Prelude.{Err}
use Rattle.base.specs.declared.Refusal.{Refusal}
use Rattle.base.specs.Refusals.{number, code_of, STATE}
use Rattle.base.proofs.Refusals.{number-not}
use Prim.Native.Nat.{ℕ, ◌%◌, ◌<◌}
use mathlib.Core.Path.{◌≡◌, refl, sym, ap, ◌∙◌, subst}
use mathlib.Core.Logic.{◌≢◌, ◌⊎◌}
use mathlib.Core.Bool.{Bool, true, false}
use mathlib.Core.List.{List}
use native.Mathlib.Omega.{arith}
use lib.Dec.{eqb}
use lib.ListN.{length, get_or, take, drop, take-append-drop}
use borrow.Author.Tests.{lt-ltb}
use Rattle.base.specs.Choice.{pick, both}
use Rattle.base.specs.Transaction.{Hist, none, Begins}
use Rattle.base.specs.Record.{entry}
use Rattle.base.specs.declared.Sizes.{Sizes}
use Rattle.rules.specs.Cluster.{Cluster as Servers, Event, start, play, trace}
use Rattle.rules.specs.Words.{zeros}
use Rattle.ledger.specs.Delivered.{delivered_of}
use Rattle.ledger.specs.Records.{Submitted}
use Rattle.ledger.proofs.Agreement.{agreement}
use Rattle.ledger.proofs.Kept.{kept}
use Rattle.ledger.proofs.SubmittedOnce.{submitted-once}
use Rattle.ledger.proofs.OneLeader.{one-leader}
use Rattle.site.specs.Site.{site_of, cluster_of, server_at, good_site}
use Rattle.cluster.specs.Any.{good_fresh, fresh_of, Freshly}
use Rattle.runs.specs.Runs.{events_of, good_run, Runs}
use Rattle.site.specs.declared.Cluster.{Cluster}
use Rattle.site.specs.declared.Told.{Told}
use Rattle.runs.specs.declared.Ran.{Ran}
use Rattle.cluster.proofs.Begun.{fresh_site}
use Rattle.pledge.specs.Ledger.{delivered_at, OneLedger, fits, blank, Pledged}

-- what is read from the words is what the server that they stand for has delivered
pub delivered-is : (z : Sizes) (depth : ℕ) (c : Cluster) (h k q o : List ℕ) (i : ℕ) → i < z.n
    → delivered_at z c h i ≡ delivered_of ((cluster_of z depth (site_of c h k q o)).srv i)
unfolding cluster_of server_at pick
delivered-is z depth c h k q o i l = rw (lt-ltb i z.n l)

-- where structs and words stand for the rules' cluster after es, they have one ledger
pub one-ledger : (z : Sizes) (depth : ℕ) (es : List Event) (c : Cluster) (h k q o : List ℕ)
    → cluster_of z depth (site_of c h k q o) ≡ play z depth start es → OneLedger z depth es c h
one-ledger z depth es c h k q o p =
    let at : (i : ℕ) → i < z.n → delivered_of ((play z depth start es).srv i) ≡ delivered_at z c h i
    = λ i l. ap (λ (s : Servers). delivered_of (s.srv i)) (sym p) ∙ sym (delivered-is z depth c h k q o i l) in
    record {
      agreement = λ i j a b.
          subst (λ (x : Hist). Begins x (delivered_at z c h j) ⊎ Begins (delivered_at z c h j) x) (at i a)
          (subst (λ (y : Hist). Begins (delivered_of ((play z depth start es).srv i)) y ⊎ Begins y (delivered_of ((play z depth start es).srv i))) (at j b)
          (agreement z depth es i j));
      kept = λ m i a.
          subst (Begins (delivered_of ((play z depth start (take m es)).srv i))) (at i a)
          (subst (λ (fs : List Event). Begins (delivered_of ((play z depth start (take m es)).srv i)) (delivered_of ((play z depth start fs).srv i))) (take-append-drop m es)
          (kept z depth (take m es) (drop m es) i));
      submitted = λ i m a.
          subst (λ (x : Hist). m < length x → Submitted (trace z depth start 1 es) (entry (get_or x m none))) (at i a) (submitted-once z depth 1 es i m);
      leader = one-leader z depth 1 es;
    }

-- ---- the function's two ends

-- what does not fit is refused, and every word stands
pub pledged-not : (z : Sizes) (depth budget : ℕ) (es h k q o : List ℕ) (f : Told) (h₁ k₁ q₁ : List ℕ) → Freshly z depth h k q o f h₁ k₁ q₁ → (why : Refusal) → f.answer ≡ Err why
    → Pledged z depth budget es h k q o (record { answer = Err why; met = 0; taken = 0; cluster = f.cluster }) h₁ k₁ q₁ o
unfolding fits blank both pick
pledged-not z depth budget es h k q o f h₁ k₁ q₁ y why w = go (good_fresh z depth h k q o) refl (sym (ap code_of w) ∙ y.code) y.hists y.cands y.queue
  where
    go : (b : Bool) → good_fresh z depth h k q o ≡ b → number why ≡ pick b 0 STATE → h₁ ≡ pick b (zeros (length h)) h → k₁ ≡ pick b (zeros (length k)) k → q₁ ≡ pick b (zeros (length q)) q
        → Pledged z depth budget es h k q o (record { answer = Err why; met = 0; taken = 0; cluster = f.cluster }) h₁ k₁ q₁ o
    go true e c a b d = absurd (number-not why c)
    go false e c a b d = record {
      code = rw e c;
      met = rw e refl;
      taken = rw e refl;
      sizes = ap (λ (x : Cluster). x.sizes) y.cluster;
      deep = ap (λ (x : Cluster). x.depth) y.cluster;
      site = rw (e, y.cluster, a, b, d) refl;
      good = λ n. absurd (number-not why n);
      rules = λ n. absurd (number-not why n);
      ledger = λ n. absurd (number-not why n);
    }

-- the run's answer, of a cluster c and the words that it was lent
abbrev Running : List ℕ → ℕ → List ℕ → Ran → List ℕ → List ℕ → List ℕ → List ℕ → Cluster → List ℕ → List ℕ → List ℕ → Type 0
Running es budget o t h' k' q' o' c h k q = Runs c (good_run c.sizes c.depth (site_of c h k q o) es) (events_of c.sizes es budget) h k q o t h' k' q' o'

-- the same, of equal ones
moved : (es : List ℕ) (budget : ℕ) (o : List ℕ) (t : Ran) (h' k' q' o' : List ℕ) (c d : Cluster) (h k q hs ks qs : List ℕ) → c ≡ d → h ≡ hs → k ≡ ks → q ≡ qs
    → Running es budget o t h' k' q' o' c h k q → Running es budget o t h' k' q' o' d hs ks qs
moved es budget o t h' k' q' o' c d h k q hs ks qs a b e f r =
    subst (λ (y : Cluster). Running es budget o t h' k' q' o' y hs ks qs) a
    (subst (λ (y : List ℕ). Running es budget o t h' k' q' o' c y ks qs) b
    (subst (λ (y : List ℕ). Running es budget o t h' k' q' o' c h y qs) e
    (subst (λ (y : List ℕ). Running es budget o t h' k' q' o' c h k y) f r)))

-- a run from the fresh cluster, where everything fits
fresh-run : (z : Sizes) (depth budget : ℕ) (es h k q o : List ℕ) (t : Ran) (h' k' q' o' : List ℕ) → good_fresh z depth h k q o ≡ true
    → cluster_of z depth (fresh_site z depth (length h) (length k) (length q) o) ≡ start → good_site z depth (fresh_site z depth (length h) (length k) (length q) o) ≡ true
    → Running es budget o t h' k' q' o' (fresh_of z depth) (zeros (length h)) (zeros (length k)) (zeros (length q)) → Pledged z depth budget es h k q o t h' k' q' o'
unfolding fits blank good_run both pick
fresh-run z depth budget es h k q o t h' k' q' o' e s g r = go (eqb (length es % 3) 0) refl
  where
    go : (b : Bool) → eqb (length es % 3) 0 ≡ b → Pledged z depth budget es h k q o t h' k' q' o'
    go true w =
        let a : good_run z depth (fresh_site z depth (length h) (length k) (length q) o) es ≡ true = rw (g, w) refl in
        let end : cluster_of z depth (site_of t.cluster h' k' q' o') ≡ play z depth start (events_of z es budget) = r.rules a ∙ ap (λ (c : Servers). play z depth c (events_of z es budget)) s in
        record {
          code = rw (e, w) (r.code ∙ rw a);
          met = rw (e, w) (r.met ∙ rw a);
          taken = rw (e, w) (r.taken ∙ rw (a, s));
          sizes = r.sizes;
          deep = r.depth;
          site = rw (e, w) (r.site ∙ rw a);
          good = λ _. r.good a;
          rules = λ _. end;
          ledger = λ _. one-ledger z depth (events_of z es budget) t.cluster h' k' q' o' end;
        }
    go false w =
        let a : good_run z depth (fresh_site z depth (length h) (length k) (length q) o) es ≡ false = rw (g, w) refl in
        let c : (code_of t.answer) ≡ STATE = r.code ∙ rw a in
        let n : (code_of t.answer) ≢ 0 = λ x. omega (arith, c, x) in
        record {
          code = rw (e, w) c;
          met = rw (e, w) (r.met ∙ rw a);
          taken = rw (e, w) (r.taken ∙ rw a);
          sizes = r.sizes;
          deep = r.depth;
          site = rw (e, w) (r.site ∙ rw a);
          good = λ x. absurd (n x);
          rules = λ x. absurd (n x);
          ledger = λ x. absurd (n x);
        }

pub pledged-run : (z : Sizes) (depth budget : ℕ) (es h k q o : List ℕ) (f : Told) (h₁ k₁ q₁ : List ℕ) (t : Ran) (h' k' q' o' : List ℕ) → Freshly z depth h k q o f h₁ k₁ q₁ → (code_of f.answer) ≡ 0
    → Running es budget o t h' k' q' o' f.cluster h₁ k₁ q₁ → Pledged z depth budget es h k q o t h' k' q' o'
unfolding pick
pledged-run z depth budget es h k q o f h₁ k₁ q₁ t h' k' q' o' y n r = go (good_fresh z depth h k q o) refl y.code y.hists y.cands y.queue
  where
    go : (b : Bool) → good_fresh z depth h k q o ≡ b → (code_of f.answer) ≡ pick b 0 STATE → h₁ ≡ pick b (zeros (length h)) h → k₁ ≡ pick b (zeros (length k)) k → q₁ ≡ pick b (zeros (length q)) q
        → Pledged z depth budget es h k q o t h' k' q' o'
    go true e c a b d =
        let same : site_of f.cluster h₁ k₁ q₁ o ≡ fresh_site z depth (length h) (length k) (length q) o = rw (y.cluster, a, b, d) refl in
        fresh-run z depth budget es h k q o t h' k' q' o' e
        (ap (cluster_of z depth) (sym same) ∙ y.rules e)
        (ap (good_site z depth) (sym same) ∙ y.good e)
        (moved es budget o t h' k' q' o' f.cluster (fresh_of z depth) h₁ k₁ q₁ (zeros (length h)) (zeros (length k)) (zeros (length q)) y.cluster a b d r)
    go false e c a b d = absurd (omega arith)
