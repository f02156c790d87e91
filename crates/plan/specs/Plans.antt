-- What a plan means as an answer of the rules, and what it promises to the hands that carry it out.
use Rattle.std.specs.Prelude.{ℕ, ◌+◌, ◌-◌, ◌≤◌, ◌<◌, ◌≡◌, ◌≢◌, Bool, true, false, List, [], ◌∷◌, ◌++◌, eqb, leb, length, set, replicate, Result, Ok, Err, IfOk}
use Rattle.base.specs.Choice.{pick, both, either}
use Rattle.base.specs.Refusals.{number, ROLE, PHASE}
use Rattle.base.specs.Transaction.{Hist}
use Rattle.base.specs.declared.Epoch.{Epoch}
use Rattle.base.specs.declared.Place.{Place}
use Rattle.base.specs.declared.Refusal.{Refusal}
use Rattle.base.specs.declared.Txn.{Txn}
use Rattle.base.specs.declared.Sizes.{Sizes}
use Rattle.rules.specs.declared.State.{State}
use Rattle.rules.specs.Message.{Msg, cepoch, newepoch, acke, newleader, ackld, commitld, propose, ack, commit, Send}
use Rattle.rules.specs.Tree.{Res, refused, taken, to_all}
use Rattle.rules.specs.Words.{txns, has, server_with}
use Rattle.plan.specs.declared.Cast.{Cast}
use Rattle.plan.specs.declared.Plan.{Plan}
use Rattle.plan.specs.declared.Message.{Message}
use Rattle.plan.specs.declared.Message.TheVariants.{Cepoch, Newepoch, Acke, Newleader, Ackld, Commitld, Propose, Ack, Commit}

abbrev pub ep : ℕ → Epoch
ep n = record { 0 = n }

abbrev pub pl : ℕ → Place
pl n = record { 0 = n }

-- a kind of the role whose stages are lo to hi, where it is not taken
unfoldable pub elsewhere : ℕ → ℕ → ℕ → ℕ
elsewhere lo hi stage = pick (both (leb lo stage) (leb stage hi)) PHASE ROLE

-- what comes after a test that passes; or its refusal
abbrev pub after : {A : Type 0} → Result A Refusal → Res → Res
after (Ok a) x = x
after (Err c) x = refused (number c)

-- ---- messages

-- the message that was read, its history in the words w
unfoldable pub meant : Message → List ℕ → Msg
meant (Cepoch e) w = cepoch e.0
meant (Newepoch e) w = newepoch e.0
meant (Acke e a n) w = acke e.0 a.0 (txns n.0 w)
meant (Newleader e n) w = newleader e.0 (txns n.0 w)
meant (Ackld e n) w = ackld e.0 n.0
meant (Commitld e n) w = commitld e.0 n.0
meant (Propose e n t) w = propose e.0 n.0 t
meant (Ack e n) w = ack e.0 n.0
meant (Commit e n) w = commit e.0 n.0

-- how many transactions lie in its words
unfoldable pub held : Message → ℕ
held (Cepoch e) = 0
held (Newepoch e) = 0
held (Acke e a n) = n.0
held (Newleader e n) = n.0
held (Ackld e n) = 0
held (Commitld e n) = 0
held (Propose e n t) = 0
held (Ack e n) = 0
held (Commit e n) = 0

-- ---- casts

-- the kinds are 1 to 9, and x is 0 where the kind has none
unfoldable pub fine : ℕ → ℕ → Bool
fine kind x = both (leb 1 kind) (both (leb kind 9) (either (either (eqb kind 3) (leb 5 kind)) (eqb x 0)))

-- the message of a cast, with the history h after the step and the plan's transaction t
unfoldable pub decode : ℕ → ℕ → ℕ → Hist → Txn → Msg
decode kind e x h t =
    pick (eqb kind 1) (cepoch e) (pick (eqb kind 2) (newepoch e) (pick (eqb kind 3) (acke e x h) (pick (eqb kind 4) (newleader e h)
    (pick (eqb kind 5) (ackld e x) (pick (eqb kind 6) (commitld e x) (pick (eqb kind 7) (propose e x t) (pick (eqb kind 8) (ack e x) (commit e x))))))))

-- the transactions that a message of a kind carries
unfoldable pub load : ℕ → Hist → Txn → Hist
load kind h t = pick (either (eqb kind 3) (eqb kind 4)) h (pick (eqb kind 7) (t ∷ []) [])

unfoldable pub cast_of : ℕ → ℕ → Cast → Hist → Txn → List Send
cast_of n me x h t = to_all n me (has x.to) (decode x.kind x.e.0 x.x.0 h t)

-- ---- plans, where h, k and m are the words of the history, of the candidate and of the message's history

-- the history after the step
unfoldable pub hist_from : ℕ → ℕ → Txn → List ℕ → List ℕ → List ℕ → Hist
hist_from from len t h k m =
    pick (eqb from 0) (txns len h) (pick (eqb from 1) (txns len m) (pick (eqb from 2) (txns len k) (txns (len - 1) h ++ (t ∷ []))))

unfoldable pub cand_from : ℕ → ℕ → List ℕ → List ℕ → List ℕ → Hist
cand_from from len h k m = pick (eqb from 0) (txns len k) (pick (eqb from 1) (txns len m) (txns len h))

abbrev pub hist_of : Plan → List ℕ → List ℕ → List ℕ → Hist
hist_of r h k m = hist_from r.hist r.state.len.0 r.txn h k m

abbrev pub cand_of : Plan → List ℕ → List ℕ → List ℕ → Hist
cand_of r h k m = cand_from r.cand r.state.cand_len.0 h k m

-- what is sent
unfoldable pub sends : Sizes → Plan → Hist → List Send
sends z r h = cast_of z.n r.state.me r.one h r.txn ++ cast_of z.n r.state.me r.two h r.txn

unfoldable pub meaning : Sizes → Result Plan Refusal → List ℕ → List ℕ → List ℕ → Res
meaning z (Ok r) h k m = taken r.empties (server_with r.state (hist_of r h k m) (cand_of r h k m)) (sends z r (hist_of r h k m))
meaning z (Err c) h k m = refused (number c)

-- ---- makers

abbrev pub nowhere : List Bool
nowhere = replicate 7 false

abbrev pub no_txn : Txn
no_txn = record { id = record { 0 = 0 }; val = 0 }

abbrev pub all_cast : List Bool → ℕ → ℕ → ℕ → Cast
all_cast to kind e x = record { to = to; kind = kind; e = ep e; x = pl x }

abbrev pub no_cast : Cast
no_cast = all_cast nowhere 1 0 0

abbrev pub solo_cast : ℕ → ℕ → ℕ → ℕ → Cast
solo_cast f kind e x = all_cast (set nowhere f true) kind e x

abbrev pub plan_of : Bool → State → ℕ → ℕ → Txn → Cast → Cast → Plan
plan_of b t hist cand x one two = record { empties = b; state = t; hist = hist; cand = cand; txn = x; one = one; two = two }

abbrev pub quiet_of : State → Plan
quiet_of t = plan_of false t 0 0 no_txn no_cast no_cast

-- ---- what a plan asks, and what it promises

-- sizes that a well-formed record has
pub record Sized (z : Sizes) (s : State) : Type 0 where
  pub most : z.n ≤ 7
  pub me : s.me < z.n
  pub room : z.room.0 ≤ 64
  pub stage : s.stage ≤ 8
  pub len : s.len.0 ≤ z.room.0
  pub cand : s.cand_len.0 ≤ z.room.0
  pub d : s.d.0 ≤ s.len.0
  pub joined : length s.joined ≡ 7
  pub acked : length s.acked ≡ 7
  pub synced : length s.synced ≡ 7
  pub counts : length s.counts ≡ 7

-- another server
pub record From (z : Sizes) (s : State) (f : ℕ) : Type 0 where
  pub low : f < z.n
  pub other : f ≢ s.me

-- what holds of a plan that is carried out
pub record Fit (z : Sizes) (s : State) (r : Plan) : Type 0 where
  pub me : r.state.me ≡ s.me
  pub len : r.state.len.0 ≤ z.room.0
  pub cand : r.state.cand_len.0 ≤ z.room.0
  pub hist : r.hist ≤ 3
  pub add : r.hist ≡ 3 → r.state.len.0 ≡ s.len.0 + 1
  pub copy : r.cand ≤ 2
  pub stays : r.cand ≡ 2 → r.hist ≡ 0
  pub same : r.hist ≡ 0 → r.state.len.0 ≡ s.len.0
  pub less : r.cand ≡ 0 → r.state.cand_len.0 ≤ s.cand_len.0
  pub one : fine r.one.kind r.one.x.0 ≡ true
  pub two : fine r.two.kind r.two.x.0 ≡ true

-- a plan, or a refusal, that means what the rules answer
pub record Plans (z : Sizes) (s : State) (r : Result Plan Refusal) (h k m : List ℕ) (x : Res) : Type 0 where
  pub means : meaning z r h k m ≡ x
  pub fit : IfOk r (λ p. Fit z s p)
