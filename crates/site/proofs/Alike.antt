-- A site, sizes and depth fix the structs and every word.
use Prim.Native.Nat.{ℕ}
use mathlib.Core.Path.{◌≡◌, ap}
use mathlib.Core.List.{List}
use Rattle.site.specs.Site.{Site, site_of}
use Rattle.site.specs.declared.Cluster.{Cluster}

module _ (c d : Cluster) (h k q o h' k' q' o' : List ℕ) (z : c.sizes ≡ d.sizes) (y : c.depth ≡ d.depth) (s : site_of c h k q o ≡ site_of d h' k' q' o') where
  pub same-cluster : c ≡ d
  same-cluster = λ j. record { sizes = z j; depth = y j; servers = (s j).servers; rings = (s j).rings }

  pub same-words : (h ≡ h') × (k ≡ k') × (q ≡ q') × (o ≡ o')
  same-words = (ap (λ (w : Site). w.hists) s, ap (λ (w : Site). w.cands) s, ap (λ (w : Site). w.queue) s, ap (λ (w : Site). w.box) s)
