-- Functions of points, what a step is taken to, and channels after a post.
use Prim.Native.Nat.{ℕ, zero, suc, ◌≤◌, ◌<◌}
use native.Mathlib.Omega.{arith}
use mathlib.Core.Path.{◌≡◌, refl, sym, ◌∙◌, fun_ext}
use mathlib.Core.Logic.{◌≢◌, ⊎_elim}
use mathlib.Core.Bool.{Bool, true, false, not}
use mathlib.Core.List.{List, [], ◌∷◌, ◌++◌, append-nil, append_assoc}
use lib.Dec.{eqb}
use borrow.Author.Tests.{eq-eqb, ne_eqb}
use Rattle.base.specs.Choice.{pick, both, upd, upd₂}
use Rattle.base.specs.Quorum.{Set, just}
use Rattle.base.specs.Refusals.{ROLE}
use Rattle.base.proofs.Choice.{upd-at, upd₂-same, upd₂-other, upd₂-row, eq-or, le-or-lt}
use Rattle.rules.specs.Message.{Msg, Send}
use Rattle.rules.specs.Server.{Server}
use Rattle.rules.specs.Table.{TAKEN, cell}
use Rattle.rules.specs.Tree.{Tree, need, fork, took, Res, refused, taken, run, gate, to_all}
use Rattle.rules.specs.Cluster.{Channels, post}

-- ---- g at the point of each server

unfoldable pub over : {P A : Type 0} → (P → A) → (ℕ → P) → ℕ → A
over g l i = g (l i)

pub pick-nil : {A : Type 0} (t : Bool) → ◌≡◌ {A = List A} (pick t [] []) []
unfolding pick
pick-nil true = refl
pick-nil false = refl

module _ {P A : Type 0} (g : P → A) (l : ℕ → P) where
  pub over-upd : (f : ℕ) (p : P) → over g (upd l f p) ≡ upd (over g l) f (g p)
  unfolding over upd pick
  over-upd f p = fun_ext (λ i. go i (eqb i f))
    where
      go : (i : ℕ) (t : Bool) → g (pick t p (l i)) ≡ pick t (g p) (g (l i))
      go i true = refl
      go i false = refl

  pub over-same : (f : ℕ) (p : P) → g p ≡ g (l f) → over g (upd l f p) ≡ over g l
  unfolding over
  over-same f p e = fun_ext (λ i. upd-at (λ (y : P). g y ≡ g (l i)) l f p i (λ q. rw q e) (λ _. refl))

-- where the points are raised first
pub over-over : {P Q A : Type 0} (g : P → A) (r : Q → P) (g' : Q → A) → ((p : Q) → g (r p) ≡ g' p) → (k : ℕ → Q) → over g (over r k) ≡ over g' k
unfolding over
over-over g r g' h k = fun_ext (λ i. h (k i))

-- a test that only x passes
pub sole : {P : Type 0} (g : P → Bool) (x : ℕ) (l : ℕ → P) → ((i : ℕ) → g (l i) ≡ eqb i x) → over g l ≡ just x
unfolding over just upd pick
sole g x l own = fun_ext (λ i. own i ∙ go (eqb i x))
  where
    go : (t : Bool) → t ≡ pick t true false
    go true = refl
    go false = refl

-- ---- the way through a tree of tests to a leaf

pub data Runs : Tree → Res → Type 0 where
  pass : {b : Bool} {r : ℕ} {t : Tree} {o : Res} → b ≡ true → Runs t o → Runs (need b r t) o
  stop : {b : Bool} {r : ℕ} {t : Tree} → b ≡ false → Runs (need b r t) (refused r)
  one : {b : Bool} {x y : Tree} {o : Res} → b ≡ true → Runs x o → Runs (fork b x y) o
  two : {b : Bool} {x y : Tree} {o : Res} → b ≡ false → Runs y o → Runs (fork b x y) o
  leaf : {b : Bool} {s : Server} {out : List Send} {o : Res} → taken b s out ≡ o → Runs (took b s out) o

pub runs : {t : Tree} {o : Res} → Runs t o → run t ≡ o
unfolding run
runs (pass e p) = rw e (runs p)
runs (stop e) = rw e
runs (one e p) = rw e (runs p)
runs (two e p) = rw e (runs p)
runs (leaf e) = e

-- a kind that the table takes at a stage, from a sender that will do
pub gated : (k stage : ℕ) {who : Bool} {t : Tree} {o : Res} → cell k stage ≡ TAKEN → who ≡ true → Runs t o → Runs (gate k stage who t) o
unfolding gate
gated k stage e w p =
    let role : not (eqb (cell k stage) ROLE) ≡ true = rw e in
    let phase : eqb (cell k stage) TAKEN ≡ true = rw e in
    pass role (pass w (pass phase p))

-- ---- what is posted to one server

unfoldable pub to : ℕ → List Send → List Msg
to b [] = []
to b (x ∷ xs) = pick (eqb b x.to) (x.msg ∷ []) [] ++ to b xs

pub to-append : (b : ℕ) (xs ys : List Send) → to b (xs ++ ys) ≡ to b xs ++ to b ys
unfolding to
to-append b [] ys = refl
to-append b (x ∷ xs) ys = rw (to-append b xs ys) (sym (append_assoc (pick (eqb b x.to) (x.msg ∷ []) []) (to b xs) (to b ys)))

pub post-at : (i : ℕ) (out : List Send) (c : Channels) (a b : ℕ) → post i out c a b ≡ c a b ++ pick (eqb a i) (to b out) []
unfolding post to pick
post-at i [] c a b = rw (pick-nil {A = Msg} (eqb a i)) (sym (append-nil (c a b)))
post-at i (x ∷ xs) c a b =
    let m = x.msg ∷ [] in
    post-at i xs (upd₂ c i x.to (c i x.to ++ m)) a b
    ∙ ⊎_elim
    (λ (p : a ≡ i). ⊎_elim
    (λ (q : b ≡ x.to). rw (p, q, upd₂-same c i x.to (c i x.to ++ m), eq-eqb i i refl, eq-eqb x.to x.to refl) (rw (← q) (append_assoc (c i b) m (to b xs))))
    (λ (q : b ≢ x.to). rw (upd₂-other c i x.to (c i x.to ++ m) a b q, ne_eqb b x.to q))
    (eq-or b x.to))
    (λ (p : a ≢ i). rw (upd₂-row c i x.to (c i x.to ++ m) a b p, ne_eqb a i p))
    (eq-or a i)

-- ---- several messages to one

unfoldable pub each : ℕ → List Msg → List Send
each x [] = []
each x (m ∷ ms) = record { to = x; msg = m } ∷ each x ms

pub to-each : (b x : ℕ) (ms : List Msg) → to b (each x ms) ≡ pick (eqb b x) ms []
unfolding to each pick
to-each b x [] = sym (pick-nil (eqb b x))
to-each b x (m ∷ ms) = rw (to-each b x ms) (go (eqb b x))
  where
    go : (t : Bool) → pick t (m ∷ []) [] ++ pick t ms [] ≡ pick t (m ∷ ms) []
    go true = refl
    go false = refl

-- one message to all others of a set
past : (n i : ℕ) (q : Set) (m : Msg) (b : ℕ) → n ≤ b → to b (to_all n i q m) ≡ []
unfolding to_all to pick
past zero i q m b le = refl
past (suc n) i q m b le = to-append b (to_all n i q m) _ ∙ rw (past n i q m b (omega arith)) (go (both (q n) (not (eqb n i))))
  where
    go : (t : Bool) → to b (pick t (record { to = n; msg = m } ∷ []) []) ≡ []
    go true = rw (ne_eqb b n (omega arith))
    go false = refl

to-all : (n i : ℕ) (q : Set) (m : Msg) (b : ℕ) → b < n → to b (to_all n i q m) ≡ pick (both (q b) (not (eqb b i))) (m ∷ []) []
unfolding to_all to pick
to-all zero i q m b lt = absurd (omega arith)
to-all (suc n) i q m b lt = to-append b (to_all n i q m) _ ∙ ⊎_elim
    (λ (e : b ≡ n). rw (e, past n i q m n (omega arith)) (hit (both (q n) (not (eqb n i)))))
    (λ (e : b ≢ n). rw (to-all n i q m b (omega arith)) (miss e (both (q b) (not (eqb b i))) (both (q n) (not (eqb n i)))))
    (eq-or b n)
  where
    hit : (t : Bool) → to n (pick t (record { to = n; msg = m } ∷ []) []) ≡ pick t (m ∷ []) []
    hit true = rw (eq-eqb n n refl)
    hit false = refl

    miss : b ≢ n → (u t : Bool) → pick u (m ∷ []) [] ++ to b (pick t (record { to = n; msg = m } ∷ []) []) ≡ pick u (m ∷ []) []
    miss e u true = rw (ne_eqb b n e) (append-nil _)
    miss e u false = append-nil _

-- where the set lies below n
pub to_set : (n i : ℕ) (q : Set) (m : Msg) (b : ℕ) → (q b ≡ true → b < n) → to b (to_all n i q m) ≡ pick (both (q b) (not (eqb b i))) (m ∷ []) []
unfolding pick both
to_set n i q m b low = ⊎_elim
    (λ (le : n ≤ b). past n i q m b le ∙ go le (q b) refl)
    (λ (lt : b < n). to-all n i q m b lt)
    (le-or-lt n b)
  where
    go : n ≤ b → (t : Bool) → q b ≡ t → [] ≡ pick (both t (not (eqb b i))) (m ∷ []) []
    go le true e = absurd (let lt = low e in let y : ⊥ = omega arith in y)
    go le false e = refl
