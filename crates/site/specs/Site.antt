-- What the code of a cluster holds: records, rings and lent words; and the cluster of the rules that they stand for.
use Rattle.std.specs.Prelude.{ℕ, ◌*◌, ◌≤◌, ◌<◌, ◌≡◌, Bool, true, List, [], eqb, leb, ltb, length, get_or}
use Rattle.base.specs.Choice.{pick, both, all_below}
use Rattle.base.specs.declared.Sizes.{Sizes}
use Rattle.rules.specs.declared.State.{State}
use Rattle.rules.specs.Server.{Server, fresh, good_sizes}
use Rattle.rules.specs.Cluster.{Cluster as Servers}
use Rattle.rules.specs.Words.{slot_size, server_of, good_state}
use Rattle.ring.specs.declared.Rings.{Rings}
use Rattle.ring.specs.Queue.{good_rings, queue_size, chans, Ringed}
use Rattle.site.specs.Parts.{share, part}
use Rattle.site.specs.declared.Cluster.{Cluster}

pub record Site : Type 0 where
  pub servers : List State
  pub rings : Rings
  pub hists : List ℕ
  pub cands : List ℕ
  pub queue : List ℕ
  pub box : List ℕ

abbrev pub site_of : Cluster → List ℕ → List ℕ → List ℕ → List ℕ → Site
site_of c h k q o = record { servers = c.servers; rings = c.rings; hists = h; cands = k; queue = q; box = o }

-- a place that holds no server
abbrev pub none : State
none = record {
  me = 0;
  stage = 0;
  oracle = 0;
  p = record { 0 = 0 };
  a = record { 0 = 0 };
  d = record { 0 = 0 };
  len = record { 0 = 0 };
  largest = record { 0 = 0 };
  cand_a = record { 0 = 0 };
  cand_len = record { 0 = 0 };
  joined = [];
  acked = [];
  synced = [];
  counts = [];
}

abbrev pub record_at : List State → ℕ → State
record_at ss i = get_or ss i none

-- ---- the cluster that they stand for

abbrev pub seated : Sizes → Site → ℕ → Server
seated z w i = server_of (record_at w.servers i) (part z i w.hists) (part z i w.cands)

unfoldable pub server_at : Sizes → Site → ℕ → Server
server_at z w i = pick (ltb i z.n) (seated z w i) fresh

unfoldable pub cluster_of : Sizes → ℕ → Site → Servers
cluster_of z depth w = record { srv = server_at z w; chan = chans z depth w.rings w.queue }

-- ---- well formed: sizes, every server's record and lent words, every ring's head and count

-- server i knows its own number, and its record and lent words are well formed
unfoldable pub good_seat : Sizes → Site → ℕ → Bool
good_seat z w i = both (eqb (record_at w.servers i).me i) (good_state z (record_at w.servers i) (part z i w.hists) (part z i w.cands))

-- words of n histories each, a queue of D slots for each channel, an outbox of six messages: how many are lent
unfoldable pub good_lens : Sizes → ℕ → ℕ → ℕ → ℕ → ℕ → Bool
good_lens z depth h k q o =
    both (eqb h (share z * z.n))
    (both (eqb k (share z * z.n))
    (both (eqb q (queue_size z depth))
    (leb (6 * slot_size z.room.0) o)))

-- sizes and depth in their ranges, and as many words
unfoldable pub fitting : Sizes → ℕ → ℕ → ℕ → ℕ → ℕ → Bool
fitting z depth h k q o = both (both (good_sizes z) (both (leb 2 depth) (leb depth 16))) (good_lens z depth h k q o)

unfoldable pub good_site : Sizes → ℕ → Site → Bool
good_site z depth w =
    both (fitting z depth (length w.hists) (length w.cands) (length w.queue) (length w.box))
    (both (good_rings depth w.rings) (all_below z.n (good_seat z w)))

-- the same, as facts
pub record Good (z : Sizes) (depth : ℕ) (w : Site) : Type 0 where
  pub sizes : good_sizes z ≡ true
  pub deep : 2 ≤ depth
  pub ringed : Ringed z depth w.rings w.queue
  pub seven : length w.servers ≡ 7
  pub hists : length w.hists ≡ share z * z.n
  pub cands : length w.cands ≡ share z * z.n
  pub box : 6 * slot_size z.room.0 ≤ length w.box
  pub me : (i : ℕ) → i < z.n → (record_at w.servers i).me ≡ i
  pub state : (i : ℕ) → i < z.n → good_state z (record_at w.servers i) (part z i w.hists) (part z i w.cands) ≡ true
