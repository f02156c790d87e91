-- Rounds of messages between a leader x and the others of q, as a table of points: what each server is at its point, what
-- waits in its two channels, and how many deliveries are to come. A delivery leads from point to point.
use Prim.Native.Nat.{ℕ, zero, suc, ◌+◌, ◌≤◌, ◌<◌}
use native.Mathlib.Nat.{le_trans}
use native.Mathlib.Omega.{arith}
use mathlib.Core.Path.{◌≡◌, refl, sym, ◌∙◌}
use mathlib.Core.Logic.{◌≢◌, ◌⊎◌, inl, inr, ⊎_elim}
use mathlib.Core.Bool.{Bool, true, false, not}
use mathlib.Core.List.{List, [], ◌∷◌, ◌++◌, append-nil}
use lib.Dec.{eqb}
use lib.ListN.{length}
use borrow.Author.Tests.{eq-eqb, ne_eqb}
use Rattle.base.specs.Choice.{pick, both, either, upd, upd₂}
use Rattle.base.specs.Quorum.{Set}
use Rattle.base.specs.declared.Sizes.{Sizes}
use Rattle.base.proofs.Choice.{eq-or, either_left, upd-at, upd_same, upd_other, upd₂-same, upd₂-other, upd₂-row, both_right}
use Rattle.rules.specs.Message.{Msg, Send, formed}
use Rattle.rules.specs.Server.{Server}
use Rattle.rules.specs.Tree.{taken, to_all}
use Rattle.rules.specs.Step.{receive}
use Rattle.rules.specs.Cluster.{Cluster, Channels, D, post, Outcome, event, after, is_done}
use Rattle.calm.specs.Calm.{Crew}
use Rattle.calm.proofs.Laws.{over, pick-nil, Runs, to, post-at, each, to-each, to_set}
use Rattle.calm.proofs.Effect.{delivered}

-- who takes part: the servers q, led by x, in a cluster where `still` waits in the channels that have no part in it
pub record Scene : Type 0 where
  pub z : Sizes
  pub depth : ℕ
  pub x : ℕ
  pub q : Set
  pub still : Channels
  pub crew : Crew z.n x q
  pub two : 2 ≤ z.n
  pub deep : 2 ≤ depth
  pub quiet : (a b : ℕ) → either (q a) (q b) ≡ true → still a b ≡ []

-- a table of points, by the leader's stage
pub record Sys : Type 1 where
  pub K : Type 0
  pub Pt : K → Type 0
  pub Stage : K → Type 0
  pub is_me : {k : K} → Pt k → Bool  -- is it the leader?
  pub is_in : {k : K} → Pt k → Bool  -- does it take part?
  pub left : {k : K} → Pt k → ℕ  -- deliveries to come
  pub back : {k : K} → Stage k → ℕ → Pt k → List Msg  -- what waits for the leader
  pub fwd : {k : K} → Stage k → Pt k → List Msg  -- what waits for the server
  pub now : {k : K} → Stage k → ℕ → Pt k → Server  -- the server
  pub lead : {k : K} → Stage k → (ℕ → Pt k) → Server  -- the leader
  pub fact : {k : K} → Stage k → ℕ → Pt k → Type 0  -- what is known of the server
  pub shut : {k : K} → Stage k → (ℕ → Pt k) → Type 0  -- the leader may not go on yet
  pub back-short : {k : K} (st : Stage k) (f : ℕ) (p : Pt k) → length (back st f p) ≤ 2
  pub fwd-short : {k : K} (st : Stage k) (p : Pt k) → length (fwd st p) ≤ 2

-- ---- how many deliveries are to come

module _ (Y : Sys) where
  abbrev pub total : {k : Y.K} → ℕ → (ℕ → Y.Pt k) → ℕ
  total zero l = 0
  total (suc n) l = total n l + Y.left (l n)

  total-past : {k : Y.K} (n : ℕ) (l : ℕ → Y.Pt k) (i : ℕ) (p : Y.Pt k) → n ≤ i → total n (upd l i p) ≡ total n l
  total-past zero l i p h = refl
  total-past (suc n) l i p h =
      let ne : n ≢ i = omega arith in
      rw (upd_other l i p n ne, total-past n l i p (omega arith))

  pub total-upd : {k : Y.K} (n : ℕ) (l : ℕ → Y.Pt k) (i : ℕ) (p : Y.Pt k) → i < n → total n (upd l i p) + Y.left (l i) ≡ total n l + Y.left p
  total-upd zero l i p h = absurd (omega arith)
  total-upd (suc n) l i p h = ⊎_elim
      (λ (e : i ≡ n). rw (e, upd_same l n p, total-past n l n p (omega arith)) (omega arith))
      (λ (e : i ≢ n).
      let ne : n ≢ i = λ y. e (sym y) in
      rw (upd_other l i p n ne) (let t = total-upd n l i p (omega arith) in omega arith))
      (eq-or i n)

  pub total-over : {k j : Y.K} (r : Y.Pt k → Y.Pt j) → ((p : Y.Pt k) → Y.left (r p) ≡ Y.left p) → (n : ℕ) (l : ℕ → Y.Pt k) → total n (over r l) ≡ total n l
  unfolding over
  total-over r h zero l = refl
  total-over r h (suc n) l = rw (h (l n), total-over r h n l)

  pub total-at : {k : Y.K} (n : ℕ) (l : ℕ → Y.Pt k) (i : ℕ) → i < n → total n l ≡ 0 → Y.left (l i) ≡ 0
  total-at zero l i h z = absurd (omega arith)
  total-at (suc n) l i h z = ⊎_elim (λ (e : i ≡ n). rw e (omega arith)) (λ (e : i ≢ n). total-at n l i (omega arith) (omega arith)) (eq-or i n)

module _ (w : Scene) (Y : Sys) where
  open w use {z, depth, x, q, still, crew, deep, quiet}

  -- what waits from a to b
  abbrev pub want : {k : Y.K} → Y.Stage k → (ℕ → Y.Pt k) → ℕ → ℕ → List Msg
  want st l a b = pick (eqb b x) (Y.back st a (l a)) (pick (eqb a x) (Y.fwd st (l b)) (still a b))

  -- every server is at its point, and exactly what the points say waits
  pub record Calm {k : Y.K} (c : Cluster) (st : Y.Stage k) (l : ℕ → Y.Pt k) : Type 0 where
    pub own : (i : ℕ) → Y.is_me (l i) ≡ eqb i x
    pub ins : (i : ℕ) → Y.is_in (l i) ≡ q i
    pub leads : c.srv x ≡ Y.lead st l
    pub rest : (i : ℕ) → i ≢ x → c.srv i ≡ Y.now st i (l i)
    pub cells : (a b : ℕ) → c.chan a b ≡ want st l a b
    pub upto : (i : ℕ) → Y.fact st i (l i)
    pub short : Y.shut st l

  -- an event is taken, and one delivery less is to come
  pub record Step (o : Outcome) (t : ℕ) : Type 0 where
    pub k : Y.K
    pub st : Y.Stage k
    pub l : ℕ → Y.Pt k
    pub calm : Calm (after o) st l
    pub less : suc (total Y z.n l) ≡ t
    pub took : is_done o ≡ true

  -- the leader may go on: all points are raised, and no server notices
  pub record Kept {k j : Y.K} (st : Y.Stage k) (st' : Y.Stage j) (p : Y.Pt k) (p' : Y.Pt j) : Type 0 where
    pub is_me' : Y.is_me p' ≡ Y.is_me p
    pub is_in' : Y.is_in p' ≡ Y.is_in p
    pub left' : Y.left p' ≡ Y.left p
    pub back' : (i : ℕ) → Y.back st' i p' ≡ Y.back st i p
    pub now' : (i : ℕ) → Y.now st' i p' ≡ Y.now st i p
    pub fact' : (i : ℕ) → Y.fact st i p → Y.fact st' i p'

  -- no server of q has more than two messages waiting for another
  pub want-short : {k : Y.K} (st : Y.Stage k) (l : ℕ → Y.Pt k) (a b : ℕ) → q a ≡ true → length (want st l a b) ≤ depth
  unfolding pick
  want-short st l a b ha = go (eqb b x) (eqb a x)
    where
      go : (t u : Bool) → length (pick t (Y.back st a (l a)) (pick u (Y.fwd st (l b)) (still a b))) ≤ depth
      go true u = le_trans (Y.back-short st a (l a)) deep
      go false true = le_trans (Y.fwd-short st (l b)) deep
      go false false = rw (quiet a b (either_left (q a) (q b) ha)) (omega arith)

  module _ {k : Y.K} (c : Cluster) (st : Y.Stage k) (l : ℕ → Y.Pt k) (calm : Calm c st l) (f : ℕ) (hf : q f ≡ true) (ne : f ≢ x) where
    xf : x ≢ f
    xf e = ne (sym e)

    lf : f < z.n
    lf = crew.inside f hf

    lx : x < z.n
    lx = crew.inside x crew.mine

    pub cell-to : c.chan x f ≡ Y.fwd st (l f)
    unfolding pick
    cell-to = calm.cells x f ∙ rw (ne_eqb f x ne, eq-eqb x x refl)

    pub cell-from : c.chan f x ≡ Y.back st f (l f)
    unfolding pick
    cell-from = calm.cells f x ∙ rw (eq-eqb x x refl)

    -- ---- a delivery to the follower f, that answers x with r
    module _ (p' : Y.Pt k) (m : Msg) (r : List Msg) (more : Y.back st f p' ≡ Y.back st f (l f) ++ r) where
      cells-to : (a b : ℕ) → post f (each x r) (upd₂ c.chan x f (Y.fwd st p')) a b ≡ want st (upd l f p') a b
      unfolding pick
      cells-to a b = post-at f (each x r) (upd₂ c.chan x f (Y.fwd st p')) a b ∙ rw (to-each b x r) (go (eq-or b x) (eq-or a f) (eq-or a x) (eq-or b f))
        where
          go : (b ≡ x) ⊎ (b ≢ x) → (a ≡ f) ⊎ (a ≢ f) → (a ≡ x) ⊎ (a ≢ x) → (b ≡ f) ⊎ (b ≢ f)
              → upd₂ c.chan x f (Y.fwd st p') a b ++ pick (eqb a f) (pick (eqb b x) r []) [] ≡ want st (upd l f p') a b
          go (inl bx) (inl af) u v = rw (bx, af, eq-eqb x x refl, eq-eqb f f refl, upd₂-row c.chan x f (Y.fwd st p') f x ne, cell-from, upd_same l f p') (sym more)
          go (inl bx) (inr af) u v = rw (bx, eq-eqb x x refl, ne_eqb a f af, upd₂-other c.chan x f (Y.fwd st p') a x xf, calm.cells a x, eq-eqb x x refl, upd_other l f p' a af) (append-nil _)
          go (inr bx) s (inl ax) (inl bf) = rw (ax, bf, ne_eqb f x ne, ne_eqb x f xf, eq-eqb x x refl, upd₂-same c.chan x f (Y.fwd st p'), upd_same l f p') (append-nil _)
          go (inr bx) s (inl ax) (inr bf) = rw (ax, ne_eqb b x bx, ne_eqb x f xf, eq-eqb x x refl, upd₂-other c.chan x f (Y.fwd st p') x b bf, calm.cells x b, ne_eqb b x bx, eq-eqb x x refl, upd_other l f p' b bf) (append-nil _)
          go (inr bx) s (inr ax) v = rw (ne_eqb a x ax, ne_eqb b x bx, upd₂-row c.chan x f (Y.fwd st p') a b ax, calm.cells a b, ne_eqb b x bx, ne_eqb a x ax, pick-nil {A = Msg} (eqb a f)) (append-nil _)

      pub to-follower : formed z m ≡ true
          → Runs (receive z f x m (Y.now st f (l f))) (taken false (Y.now st f p') (each x r))
          → Y.fwd st (l f) ≡ m ∷ Y.fwd st p' → Y.is_me p' ≡ false → Y.is_in p' ≡ true → Y.lead st (upd l f p') ≡ Y.lead st l → Y.shut st (upd l f p')
          → Y.left (l f) ≡ suc (Y.left p') → Y.fact st f p'
          → Step (event z depth c (D x f)) (total Y z.n l)
      unfolding is_done after
      to-follower ok e hd mine inn like sh one up =
          let e' : Runs (receive z f x m (c.srv f)) (taken false (Y.now st f p') (each x r)) = rw (calm.rest f ne) e in
          let d = delivered z depth c x f lx lf xf m (Y.fwd st p') (cell-to ∙ hd) ok (Y.now st f p') (each x r) e'
          (λ b. rw (cells-to f b) (want-short st (upd l f p') f b hf)) in
          rw d (record {
            k = k;
            st = st;
            l = upd l f p';
            took = refl;
            less = (let t = total-upd Y z.n l f p' lf in omega (arith, one));
            calm = record {
              own = λ i. upd-at (λ (p : Y.Pt k). Y.is_me p ≡ eqb i x) l f p' i (λ y. rw (y, ne_eqb f x ne) mine) (λ _. calm.own i);
              ins = λ i. upd-at (λ (p : Y.Pt k). Y.is_in p ≡ q i) l f p' i (λ y. rw (y, hf) inn) (λ _. calm.ins i);
              leads = upd_other c.srv f (Y.now st f p') x xf ∙ calm.leads ∙ sym like;
              rest = λ i ix. upd-at (λ (p : Y.Pt k). upd c.srv f (Y.now st f p') i ≡ Y.now st i p) l f p' i
                  (λ y. rw y (upd_same c.srv f (Y.now st f p'))) (λ y. upd_other c.srv f (Y.now st f p') i y ∙ calm.rest i ix);
              cells = cells-to;
              upto = λ i. upd-at (λ (p : Y.Pt k). Y.fact st i p) l f p' i (λ y. rw y up) (λ _. calm.upto i);
              short = sh;
            };
          })

    -- ---- a delivery to the leader
    module _ {j : Y.K} (st' : Y.Stage j) (r : Y.Pt k → Y.Pt j) (kept : (p : Y.Pt k) → Kept st st' p (r p)) (p' : Y.Pt k) (m : Msg) (ms : List Send)
        (silent : to x ms ≡ [])
        (f-fwd : Y.fwd st' (r p') ≡ Y.fwd st (l f) ++ to f ms)
        (o-fwd : (b : ℕ) → b ≢ x → b ≢ f → Y.fwd st' (r (l b)) ≡ Y.fwd st (l b) ++ to b ms) where
      cells-from : (a b : ℕ) → post x ms (upd₂ c.chan f x (Y.back st f p')) a b ≡ want st' (over r (upd l f p')) a b
      unfolding pick over
      cells-from a b = post-at x ms (upd₂ c.chan f x (Y.back st f p')) a b ∙ go (eq-or b x) (eq-or a f) (eq-or a x) (eq-or b f)
        where
          go : (b ≡ x) ⊎ (b ≢ x) → (a ≡ f) ⊎ (a ≢ f) → (a ≡ x) ⊎ (a ≢ x) → (b ≡ f) ⊎ (b ≢ f)
              → upd₂ c.chan f x (Y.back st f p') a b ++ pick (eqb a x) (to b ms) [] ≡ want st' (over r (upd l f p')) a b
          go (inl bx) (inl af) u v = rw (bx, af, eq-eqb x x refl, ne_eqb f x ne, upd₂-same c.chan f x (Y.back st f p'), upd_same l f p', (kept p').back' f) (append-nil _)
          go (inl bx) (inr af) u v = rw (bx, silent, pick-nil {A = Msg} (eqb a x), eq-eqb x x refl, upd₂-row c.chan f x (Y.back st f p') a x af, calm.cells a x, eq-eqb x x refl, upd_other l f p' a af, (kept (l a)).back' a) (append-nil _)
          go (inr bx) s (inl ax) (inl bf) = rw (ax, bf, ne_eqb f x ne, eq-eqb x x refl, upd₂-other c.chan f x (Y.back st f p') x f ne, cell-to, upd_same l f p') (sym f-fwd)
          go (inr bx) s (inl ax) (inr bf) = rw (ax, eq-eqb x x refl, ne_eqb b x bx, upd₂-other c.chan f x (Y.back st f p') x b bx, calm.cells x b, ne_eqb b x bx, eq-eqb x x refl, upd_other l f p' b bf) (sym (o-fwd b bx bf))
          go (inr bx) s (inr ax) v = rw (ne_eqb a x ax, ne_eqb b x bx, upd₂-other c.chan f x (Y.back st f p') a b bx, calm.cells a b, ne_eqb b x bx, ne_eqb a x ax) (append-nil _)

      pub to-leader : formed z m ≡ true
          → Runs (receive z x f m (Y.lead st l)) (taken false (Y.lead st' (over r (upd l f p'))) ms)
          → Y.back st f (l f) ≡ m ∷ Y.back st f p' → Y.is_me p' ≡ false → Y.is_in p' ≡ true
          → Y.now st f p' ≡ Y.now st f (l f)
          → Y.left (l f) ≡ suc (Y.left p') → Y.fact st f p' → Y.shut st' (over r (upd l f p'))
          → Step (event z depth c (D f x)) (total Y z.n l)
      unfolding is_done after over
      to-leader ok e hd mine inn same one up sh =
          let s' = Y.lead st' (over r (upd l f p')) in
          let e' : Runs (receive z x f m (c.srv x)) (taken false s' ms) = rw calm.leads e in
          let d = delivered z depth c f x lf lx ne m (Y.back st f p') (cell-from ∙ hd) ok s' ms e'
          (λ b. rw (cells-from x b) (want-short st' (over r (upd l f p')) x b crew.mine)) in
          rw d (record {
            k = j;
            st = st';
            l = over r (upd l f p');
            took = refl;
            less = (let t = total-upd Y z.n l f p' lf in let u = total-over Y r (λ p. (kept p).left') z.n (upd l f p') in omega (arith, one));
            calm = record {
              own = λ i. (kept (upd l f p' i)).is_me' ∙ upd-at (λ (p : Y.Pt k). Y.is_me p ≡ eqb i x) l f p' i (λ y. rw (y, ne_eqb f x ne) mine) (λ _. calm.own i);
              ins = λ i. (kept (upd l f p' i)).is_in' ∙ upd-at (λ (p : Y.Pt k). Y.is_in p ≡ q i) l f p' i (λ y. rw (y, hf) inn) (λ _. calm.ins i);
              leads = upd_same c.srv x s';
              rest = λ i ix. upd_other c.srv x s' i ix ∙ calm.rest i ix
                  ∙ upd-at (λ (p : Y.Pt k). Y.now st i (l i) ≡ Y.now st i p) l f p' i (λ y. rw y (sym same)) (λ _. refl)
                  ∙ sym ((kept (upd l f p' i)).now' i);
              cells = cells-from;
              upto = λ i. (kept (upd l f p' i)).fact' i (upd-at (λ (p : Y.Pt k). Y.fact st i p) l f p' i (λ y. rw y up) (λ _. calm.upto i));
              short = sh;
            };
          })

    module _ (p p' : Y.Pt k) (here : l f ≡ p) (mine : Y.is_me p' ≡ false) (inn : Y.is_in p' ≡ true) (one : Y.left p ≡ suc (Y.left p')) (nw : Y.now st f p' ≡ Y.now st f p)
        (fp : Y.fact st f p') (m : Msg) (ok : formed z m ≡ true) (bk : Y.back st f p ≡ m ∷ Y.back st f p') where
      -- the leader answers f alone, with r
      pub reply : (st' : Y.Stage k) → ((p : Y.Pt k) → Kept st st' p p) → ((p : Y.Pt k) → Y.fwd st' p ≡ Y.fwd st p)
          → (r : List Msg) → Y.fwd st p' ≡ Y.fwd st p ++ r
          → Runs (receive z x f m (Y.lead st l)) (taken false (Y.lead st' (upd l f p')) (each f r))
          → Y.shut st' (upd l f p')
          → Step (event z depth c (D f x)) (total Y z.n l)
      unfolding pick over
      reply st' kept same r fw rc sh =
          to-leader st' (λ p. p) kept p' m (each f r) (to-each x f r ∙ rw (ne_eqb x f xf)) (same p' ∙ rw (here, to-each f f r, eq-eqb f f refl) fw)
          (λ b bx bf. same (l b) ∙ rw (to-each b f r, ne_eqb b f bf) (sym (append-nil _)))
          ok rc (rw here bk) mine inn (rw here nw) (rw here one) fp sh

      -- the leader goes on, and tells all of a set
      pub announce : {j : Y.K} (st' : Y.Stage j) (r : Y.Pt k → Y.Pt j) → ((p : Y.Pt k) → Kept st st' p (r p)) → (g : Y.Pt k → Bool) (m₂ : Msg)
          → ((p : Y.Pt k) → Y.is_me p ≡ false → Y.fwd st' (r p) ≡ Y.fwd st p ++ pick (g p) (m₂ ∷ []) [])
          → ((p : Y.Pt k) → g p ≡ true → Y.is_in p ≡ true)
          → Y.fwd st p' ≡ Y.fwd st p
          → Runs (receive z x f m (Y.lead st l)) (taken false (Y.lead st' (over r (upd l f p'))) (to_all z.n x (over g (upd l f p')) m₂))
          → Y.shut st' (over r (upd l f p'))
          → Step (event z depth c (D f x)) (total Y z.n l)
      unfolding pick both over
      announce st' r kept g m₂ gf out fw rc sh =
          to-leader st' r kept p' m (to_all z.n x (over g (upd l f p')) m₂)
          (sent x ∙ rw (eq-eqb x x refl) (none (g (upd l f p' x))))
          (gf p' mine ∙ rw (here, sent f, upd_same l f p', ne_eqb f x ne, both_right (g p'), fw))
          (λ b bx bf. gf (l b) (calm.own b ∙ ne_eqb b x bx) ∙ rw (sent b, upd_other l f p' b bf, ne_eqb b x bx, both_right (g (l b))))
          ok rc (rw here bk) mine inn (rw here nw) (rw here one) fp sh
        where
          sent : (b : ℕ) → to b (to_all z.n x (over g (upd l f p')) m₂) ≡ pick (both (over g (upd l f p') b) (not (eqb b x))) (m₂ ∷ []) []
          sent b = to_set z.n x (over g (upd l f p')) m₂ b (λ e. crew.inside b
              (sym (upd-at (λ (p : Y.Pt k). Y.is_in p ≡ q b) l f p' b (λ y. rw (y, hf) inn) (λ _. calm.ins b)) ∙ out (upd l f p' b) e))

          none : (t : Bool) → ◌≡◌ {A = List Msg} (pick (both t false) (m₂ ∷ []) []) []
          none true = refl
          none false = refl
