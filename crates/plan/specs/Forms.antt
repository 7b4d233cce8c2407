-- The two forms of a plan's bytes (22.8): without labels of points, and with one for each.
use Rattle.std.specs.Prelude.{List, [], ◌++◌, ℕ, ◌+◌, take, drop, replicate}
use Rattle.plan.specs.Bytes.{byte_at}
use Rattle.plan.specs.Layout.{labels_at, label_bytes}

-- 22.8: with these labels in place of those that it has, if it has any
abbrev pub relabelled : List ℕ → List ℕ → List ℕ
relabelled bs labels = take (labels_at bs) bs ++ (labels ++ drop (labels_at bs + label_bytes bs) bs)

-- 22.8: with a label 0 for each point
unfoldable pub with_labels : List ℕ → List ℕ
with_labels bs = relabelled bs (replicate (byte_at bs 0) 0)

-- 22.8: without labels
unfoldable pub without_labels : List ℕ → List ℕ
without_labels bs = relabelled bs []
