-- What an event that is taken leaves, as one equation.
use Prim.Native.Nat.{ℕ, ◌≤◌, ◌<◌}
use mathlib.Core.Path.{◌≡◌}
use mathlib.Core.Logic.{◌≢◌}
use mathlib.Core.Bool.{Bool, true, false, not}
use mathlib.Core.List.{List, ◌∷◌}
use lib.Dec.{eqb, leb, ltb}
use lib.ListN.{length}
use borrow.Author.Tests.{ne_eqb, le-leb, lt-ltb}
use Rattle.base.specs.Choice.{pick, upd, upd₂}
use Rattle.base.specs.Refusals.{UNDO}
use Rattle.base.specs.declared.Sizes.{Sizes}
use Rattle.base.proofs.Choice.{all_of}
use Rattle.rules.specs.Message.{Msg, Send, formed}
use Rattle.rules.specs.Server.{Server}
use Rattle.rules.specs.Tree.{Res, refused, taken}
use Rattle.rules.specs.Step.{step, receive, Input, oracle, message, submit}
use Rattle.rules.specs.Cluster.{Cluster, Channels, O, D, S, emptied, post, roomy, told, done, drops, answer, at, hand, event}
use Rattle.calm.proofs.Laws.{Runs, pass, runs}

module _ (z : Sizes) (depth : ℕ) (c : Cluster) where
  -- the cluster in which i is s and `ch` waits
  abbrev pub next : ℕ → Server → Channels → Cluster
  next i s ch = record { srv = upd c.srv i s; chan = ch }

  roomy_of : (i : ℕ) (ch : Channels) → ((b : ℕ) → length (ch i b) ≤ depth) → roomy z.n depth i ch ≡ true
  unfolding roomy
  roomy_of i ch fits = all_of z.n (λ b. leb (length (ch i b)) depth) (λ b _. le-leb (length (ch i b)) depth (fits b))

  at-taken : (i : ℕ) (asked empties : Bool) (rest : Channels) (e : Input) (s : Server) (out : List Send) → i < z.n
      → Runs (step z i e (c.srv i)) (taken empties s out)
      → ((b : ℕ) → length (post i out (pick empties (emptied i rest) rest) i b) ≤ depth)
      → at z depth c i asked rest e ≡ done i (c.srv i) s asked (next i s (post i out (pick empties (emptied i rest) rest)))
  unfolding at answer pick
  at-taken i asked empties rest e s out hi r fits = rw (lt-ltb i z.n hi, runs r, roomy_of i (post i out (pick empties (emptied i rest) rest)) fits)

  -- a delivery
  module _ (f i : ℕ) (hf : f < z.n) (hi : i < z.n) (ne : f ≢ i) (m : Msg) (q : List Msg) (head : c.chan f i ≡ m ∷ q) (ok : formed z m ≡ true) where
    handed : {o : Res} → Runs (receive z i f m (c.srv i)) o → Runs (step z i (message f m) (c.srv i)) o
    unfolding step
    handed r =
        let low : ltb f z.n ≡ true = lt-ltb f z.n hf in
        let other : not (eqb f i) ≡ true = rw (ne_eqb f i ne) in
        pass low (pass other (pass ok r))

    pub delivered : (s : Server) (out : List Send) → Runs (receive z i f m (c.srv i)) (taken false s out)
        → ((b : ℕ) → length (post i out (upd₂ c.chan f i q) i b) ≤ depth)
        → event z depth c (D f i) ≡ done i (c.srv i) s false (next i s (post i out (upd₂ c.chan f i q)))
    unfolding event hand pick
    delivered s out r fits = rw head (at-taken i false false (upd₂ c.chan f i q) (message f m) s out hi (handed r) fits)

    -- a delivery that would undo is told so
    pub undone : Runs (receive z i f m (c.srv i)) (refused UNDO) → (c' : Cluster) × (event z depth c (D f i) ≡ told UNDO c')
    unfolding event hand at answer pick
    undone r = (pick (drops UNDO) (record { srv = c.srv; chan = upd₂ c.chan f i q }) c, rw (head, lt-ltb i z.n hi, runs (handed r)))

  -- an oracle event
  pub turned : (i x : ℕ) (s : Server) (out : List Send) → i < z.n → Runs (step z i (oracle x) (c.srv i)) (taken true s out)
      → ((b : ℕ) → length (post i out (emptied i c.chan) i b) ≤ depth)
      → event z depth c (O i x) ≡ done i (c.srv i) s false (next i s (post i out (emptied i c.chan)))
  unfolding event pick
  turned i x s out hi r fits = at-taken i false true c.chan (oracle x) s out hi r fits

  -- a submission
  pub submitted : (i v : ℕ) (s : Server) (out : List Send) → i < z.n → Runs (step z i (submit v) (c.srv i)) (taken false s out)
      → ((b : ℕ) → length (post i out c.chan i b) ≤ depth)
      → event z depth c (S i v) ≡ done i (c.srv i) s true (next i s (post i out c.chan))
  unfolding event pick
  submitted i v s out hi r fits = at-taken i true false c.chan (submit v) s out hi r fits
