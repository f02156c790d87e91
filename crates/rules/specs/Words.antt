-- Words of 64 bits, and what they stand for: histories, messages in their slots, the record.
-- This module alone knows how many words a transaction has.
use Rattle.std.specs.Prelude.{ℕ, zero, suc, ◌+◌, ◌-◌, ◌*◌, Bool, true, false, List, [], ◌∷◌, ◌++◌, eqb, leb, length, take, drop, get_or}
use Rattle.base.specs.Choice.{pick, both, either}
use Rattle.base.specs.Quorum.{Set}
use Rattle.base.specs.Transaction.{Hist}
use Rattle.base.specs.declared.Txn.{Txn}
use Rattle.base.specs.declared.Sizes.{Sizes}
use Rattle.rules.specs.declared.State.{State}
use Rattle.rules.specs.Message.{Msg, cepoch, newepoch, acke, newleader, ackld, commitld, propose, ack, commit, junk, Send}
use Rattle.rules.specs.Server.{Server, SEVEN, well_formed}

-- ---- transactions: the identifier and then the value

abbrev pub WORDS : ℕ
WORDS = 2

abbrev pub words : Txn → List ℕ
words t = t.id.0 ∷ t.val ∷ []

abbrev pub txn_at : List ℕ → Txn
txn_at w = record { id = record { 0 = get_or w 0 0 }; val = get_or w 1 0 }

-- the first n transactions of the words w
unfoldable pub txns : ℕ → List ℕ → Hist
txns zero w = []
txns (suc n) w = txn_at w ∷ txns n (drop WORDS w)

unfoldable pub flat : Hist → List ℕ
flat [] = []
flat (t ∷ h) = words t ++ flat h

unfoldable pub zeros : ℕ → List ℕ
zeros zero = []
zeros (suc n) = 0 ∷ zeros n

unfoldable pub all_zero : List ℕ → Bool
all_zero [] = true
all_zero (x ∷ w) = both (eqb x 0) (all_zero w)

-- a history in room for H transactions: words past its length are zero
unfoldable pub hist_words : ℕ → Hist → List ℕ
hist_words H h = flat h ++ zeros (WORDS * (H - length h))

-- ---- messages: kind, e, the other number, how many transactions, and these

abbrev pub msg_words : ℕ → ℕ → ℕ → ℕ → Hist → List ℕ
msg_words H kind e x h = kind ∷ e ∷ x ∷ length h ∷ hist_words H h

abbrev pub msg_size : ℕ → ℕ
msg_size H = 4 + WORDS * H

unfoldable pub encode : ℕ → Msg → List ℕ
encode H (cepoch p) = msg_words H 1 p 0 []
encode H (newepoch e) = msg_words H 2 e 0 []
encode H (acke e a h) = msg_words H 3 e a h
encode H (newleader e h) = msg_words H 4 e 0 h
encode H (ackld e c) = msg_words H 5 e c []
encode H (commitld e c) = msg_words H 6 e c []
encode H (propose e k t) = msg_words H 7 e k (t ∷ [])
encode H (ack e k) = msg_words H 8 e k []
encode H (commit e c) = msg_words H 9 e c []
encode H junk = msg_words H 0 0 0 []

abbrev pub word : List ℕ → ℕ → ℕ
word m k = get_or m k 0

-- has the kind k a second number? does it carry a history?
unfoldable pub second : ℕ → Bool
second k = either (eqb k 3) (leb 5 k)

unfoldable pub laden : ℕ → Bool
laden k = either (eqb k 3) (eqb k 4)

-- a history within the room, and no word that is not zero past the fields: the second number where there is none,
-- the count where there is no history (PROPOSE has one transaction), and everything after the transactions
unfoldable pub tidy : ℕ → List ℕ → Bool
tidy H m =
    both (leb (word m 3) H)
    (both (either (second (word m 0)) (eqb (word m 2) 0))
    (both (either (laden (word m 0)) (eqb (word m 3) (pick (eqb (word m 0) 7) 1 0)))
    (all_zero (drop (4 + WORDS * word m 3) m))))

-- the message that the fields say; an unknown kind is junk
unfoldable pub said : List ℕ → Msg
said m =
    pick (eqb (word m 0) 1) (cepoch (word m 1))
    (pick (eqb (word m 0) 2) (newepoch (word m 1))
    (pick (eqb (word m 0) 3) (acke (word m 1) (word m 2) (txns (word m 3) (drop 4 m)))
    (pick (eqb (word m 0) 4) (newleader (word m 1) (txns (word m 3) (drop 4 m)))
    (pick (eqb (word m 0) 5) (ackld (word m 1) (word m 2))
    (pick (eqb (word m 0) 6) (commitld (word m 1) (word m 2))
    (pick (eqb (word m 0) 7) (propose (word m 1) (word m 2) (txn_at (drop 4 m)))
    (pick (eqb (word m 0) 8) (ack (word m 1) (word m 2))
    (pick (eqb (word m 0) 9) (commit (word m 1) (word m 2))
    junk))))))))

-- the message in the words of a slot
unfoldable pub read_msg : ℕ → List ℕ → Msg
read_msg H m = pick (tidy H m) (said m) junk

-- ---- the record, with its history and its candidate

abbrev pub has : List Bool → Set
has q s = get_or q s false

abbrev pub num : List ℕ → ℕ → ℕ
num q s = get_or q s 0

abbrev pub server_with : State → Hist → Hist → Server
server_with s h k = record {
  dur = record { p = s.p.0; a = s.a.0; d = s.d.0; hist = h };
  stage = s.stage;
  orc = s.oracle;
  vol = record {
    joined = has s.joined;
    acked = has s.acked;
    synced = has s.synced;
    largest = s.largest.0;
    cand_epoch = s.cand_a.0;
    cand_hist = k;
    counts = num s.counts;
  };
}

abbrev pub server_of : State → List ℕ → List ℕ → Server
server_of s h k = server_with s (txns s.len.0 h) (txns s.cand_len.0 k)

-- f 0, f 1, .., f (n - 1)
unfoldable pub tab : {A : Type 0} → ℕ → (ℕ → A) → List A
tab zero f = []
tab (suc n) f = tab n f ++ (f n ∷ [])

unfoldable pub state_of : ℕ → Server → State
state_of i s = record {
  me = i;
  stage = s.stage;
  oracle = s.orc;
  p = record { 0 = s.dur.p };
  a = record { 0 = s.dur.a };
  d = record { 0 = s.dur.d };
  len = record { 0 = length s.dur.hist };
  largest = record { 0 = s.vol.largest };
  cand_a = record { 0 = s.vol.cand_epoch };
  cand_len = record { 0 = length s.vol.cand_hist };
  joined = tab SEVEN s.vol.joined;
  acked = tab SEVEN s.vol.acked;
  synced = tab SEVEN s.vol.synced;
  counts = tab SEVEN s.vol.counts;
}

-- words of a history of n transactions: as many as the room asks, zero past the length
unfoldable pub good_words : ℕ → ℕ → List ℕ → Bool
good_words H n w = both (eqb (length w) (WORDS * H)) (both (leb n H) (all_zero (drop (WORDS * n) w)))

-- a record and lent words that are well formed
unfoldable pub good_state : Sizes → State → List ℕ → List ℕ → Bool
good_state z s h k =
    both (good_words z.room.0 s.len.0 h)
    (both (good_words z.room.0 s.cand_len.0 k)
    (well_formed z s.me (server_of s h k)))

-- ---- the outbox: slots of a receiver and its message

abbrev pub slot_size : ℕ → ℕ
slot_size H = 1 + msg_size H

abbrev pub slot : ℕ → Send → List ℕ
slot H x = x.to ∷ encode H x.msg

-- the words q, with those from word k on replaced by ws
unfoldable pub put : List ℕ → ℕ → List ℕ → List ℕ
put q k ws = take k q ++ ws ++ drop (k + length ws) q

-- the outbox with these messages in its slots from slot k on
unfoldable pub boxed : ℕ → List ℕ → ℕ → List Send → List ℕ
boxed H o k [] = o
boxed H o k (x ∷ xs) = boxed H (put o (slot_size H * k) (slot H x)) (suc k) xs
