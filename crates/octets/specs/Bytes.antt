-- Words as bytes: eight bytes to a word, the lowest first.
use Rattle.std.specs.Prelude.{ℕ, zero, suc, ◌+◌, ◌*◌, ◌/◌, ◌%◌, Bool, true, List, [], ◌∷◌, ◌++◌, leb, get_or, drop}
use Rattle.base.specs.Choice.{both}

-- the word that starts at byte k
unfoldable pub word_at : List ℕ → ℕ → ℕ
word_at b k =
    get_or b k 0 + 256 * get_or b (k + 1) 0 + 65536 * get_or b (k + 2) 0 + 16777216 * get_or b (k + 3) 0 + 4294967296 * get_or b (k + 4) 0
    + 1099511627776 * get_or b (k + 5) 0 + 281474976710656 * get_or b (k + 6) 0 + 72057594037927936 * get_or b (k + 7) 0

-- the first n words of the bytes b
unfoldable pub words_of : ℕ → List ℕ → List ℕ
words_of zero b = []
words_of (suc n) b = word_at b 0 ∷ words_of n (drop 8 b)

abbrev pub eight : ℕ → List ℕ
eight x =
    x % 256 ∷ x / 256 % 256 ∷ x / 65536 % 256 ∷ x / 16777216 % 256 ∷ x / 4294967296 % 256 ∷ x / 1099511627776 % 256
    ∷ x / 281474976710656 % 256 ∷ x / 72057594037927936 % 256 ∷ []

-- the bytes of the words
unfoldable pub bytes_of : List ℕ → List ℕ
bytes_of [] = []
bytes_of (x ∷ w) = eight x ++ bytes_of w

-- is every number at most k?
unfoldable pub under : ℕ → List ℕ → Bool
under k [] = true
under k (x ∷ l) = both (leb x k) (under k l)

-- the greatest byte, the greatest word
abbrev pub BYTE : ℕ
BYTE = 255

abbrev pub WORD : ℕ
WORD = 18446744073709551615
