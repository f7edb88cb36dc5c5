-- The picture of lines, as an SVG: a line has 20 px downwards, a column 200 px.
use Rattle.std.specs.Prelude.{ℕ, ◌+◌, ◌*◌, ◌==◌, Bool, true, false, if◌then◌else◌, List, [], ◌∷◌, ◌++◌, length, max, Option, Some, None, codes}
use Rattle.std.specs.List.{flat_map, list_any, range_with_len}
use Rattle.std.specs.Fmt.{decimal}
use Rattle.replica.specs.Contradictions.{event_text}
use Rattle.replica.specs.declared.versions_met.LineAt.{LineAt}
use Rattle.replica.specs.declared.versions_met.Mark.{Mark}
use Rattle.replica.specs.ObjectLines.{LineValue}

-- what there is for the elements of a list, which are numbered from a number on
abbrev pub numbered : {X : Type 0} → (ℕ → X → List ℕ) → ℕ → List X → List ℕ
numbered part n [] = []
numbered part n (x ∷ xs) = part n x ++ numbered part (n + 1) xs

-- a number between quotes
abbrev pub attribute : List ℕ → ℕ → List ℕ
attribute name number = name ++ (decimal number ++ codes "\"")

-- where the column of a thread is, and where a line is
abbrev pub column_of : ℕ → ℕ
column_of thread = 20 + 200 * thread

abbrev pub height_of : ℕ → ℕ
height_of line = 50 + 20 * line

-- ---- columns

abbrev pub thread_line : ℕ → ℕ → List ℕ
thread_line height thread =
    attribute (codes "<line x1=\"") (column_of thread) ++ (attribute (codes " y1=\"30\" x2=\"") (column_of thread) ++ (attribute (codes " y2=\"") height ++ codes " stroke=\"lightgray\"/>\n"))

abbrev pub thread_head : ℕ → List ℕ
thread_head thread = attribute (codes "<text x=\"") (column_of thread) ++ (codes " y=\"20\">thread " ++ (decimal thread ++ codes "</text>\n"))

abbrev pub column_text : ℕ → ℕ → List ℕ
column_text height thread = thread_line height thread ++ thread_head thread

-- how many columns there are: up to the greatest thread that has a line
abbrev pub columns_of : List LineValue → ℕ
columns_of [] = 0
columns_of (line ∷ lines) = max (line.thread + 1) (columns_of lines)

-- ---- arrows

-- where a line is, behind the names of both numbers
abbrev pub point_text : List ℕ → List ℕ → LineAt → List ℕ
point_text x y at = attribute x (column_of at.thread) ++ attribute y (height_of at.line)

abbrev pub arrow_text : LineAt → LineAt → List ℕ
arrow_text from to =
    point_text (codes "<line x1=\"") (codes " y1=\"") from ++ (point_text (codes " x2=\"") (codes " y2=\"") to ++ codes " stroke=\"steelblue\" marker-end=\"url(#head)\"/>\n")

abbrev pub arrow_to : LineAt → Option LineAt → List ℕ
arrow_to to None = []
arrow_to to (Some from) = arrow_text from to

-- the arrows from the lines of the writes that an access met
abbrev pub arrows_text : ℕ → LineValue → List ℕ
arrows_text n line = flat_map (λ (m : Mark). arrow_to (record { thread = line.thread; line = n }) m.from) line.marks

-- ---- dots and words

-- of an unread write red, of another write filled, of a read hollow
abbrev pub dot_of : Bool → Bool → List ℕ
dot_of true is_write = codes " r=\"4\" fill=\"red\" stroke=\"red\"/>\n"
dot_of false true = codes " r=\"4\" fill=\"black\" stroke=\"black\"/>\n"
dot_of false false = codes " r=\"4\" fill=\"white\" stroke=\"black\"/>\n"

abbrev pub has_unread : List Mark → Bool
has_unread marks = list_any (λ m. m.is_unread) marks

abbrev pub has_write : List Mark → Bool
has_write marks = list_any (λ m. m.is_write) marks

abbrev pub dot_text : LineAt → List Mark → List ℕ
dot_text at marks = point_text (codes "<circle cx=\"") (codes " cy=\"") at ++ dot_of (has_unread marks) (has_write marks)

abbrev pub touch_word : Bool → List ℕ
touch_word true = codes "write "
touch_word false = codes "read "

abbrev pub unread_word : Bool → List ℕ
unread_word true = codes " <tspan fill=\"red\">unread</tspan>"
unread_word false = []

-- `read O@V`, or `write O@V` of the version that was made
abbrev pub mark_text : Mark → List ℕ
mark_text m = touch_word m.is_write ++ (decimal m.object ++ (codes "@" ++ (decimal m.version ++ unread_word m.is_unread)))

abbrev pub separator : Bool → List ℕ
separator true = codes " "
separator false = codes ", "

abbrev pub marks_text : Bool → List Mark → List ℕ
marks_text is_first [] = []
marks_text is_first (m ∷ ms) = separator is_first ++ (mark_text m ++ marks_text false ms)

-- where an event stands, and what it touched
abbrev pub access_text : LineValue → List ℕ
access_text line = event_text (record { thread = line.thread; place = line.place }) ++ marks_text true line.marks

abbrev pub words_text : ℕ → LineValue → List ℕ
words_text n line =
    attribute (codes "<text x=\"") (column_of line.thread + 18) ++ (attribute (codes " y=\"") (height_of n + 4)
    ++ (codes ">" ++ (access_text line ++ codes "</text>\n")))

abbrev pub line_text : ℕ → LineValue → List ℕ
line_text n line = dot_text (record { thread = line.thread; line = n }) line.marks ++ words_text n line

-- ---- the picture

-- that no line is drawn, where none is
abbrev pub none_text : ℕ → List ℕ
none_text lines = if lines == 0 then codes "<text x=\"20\" y=\"54\">no accesses</text>\n" else []

-- how many known accesses have no row, if there are some
abbrev pub more_words : ℕ → ℕ → List ℕ
more_words lines more =
    attribute (codes "<text x=\"10\" y=\"") (height_of lines + 24) ++ (codes " fill=\"gray\">" ++ (decimal more ++ codes " more accesses: what they met is not known</text>\n"))

abbrev pub more_text : ℕ → ℕ → List ℕ
more_text lines more = if more == 0 then [] else more_words lines more

abbrev pub svg_begin : List ℕ
svg_begin = codes "<svg xmlns=\"http://www.w3.org/2000/svg\" font-family=\"monospace\" font-size=\"12\" width=\""

abbrev pub svg_defs : List ℕ
svg_defs = codes ">\n<defs><marker id=\"head\" markerWidth=\"9\" markerHeight=\"8\" refX=\"14\" refY=\"4\" orient=\"auto\"><path d=\"M0,0 L9,4 L0,8 Z\" fill=\"steelblue\"/></marker></defs>\n<style>text{stroke:white;stroke-width:3px;paint-order:stroke}</style>\n<rect width=\"100%\" height=\"100%\" fill=\"white\"/>\n"

abbrev pub svg_head : ℕ → ℕ → List ℕ
svg_head columns lines = attribute svg_begin (200 * columns + 240) ++ (attribute (codes " height=\"") (height_of lines + 40) ++ svg_defs)

abbrev pub columns_text : ℕ → ℕ → List ℕ
columns_text columns height = flat_map (column_text height) (range_with_len 0 columns)

-- columns, arrows, and above them dots and words
abbrev pub drawn_text : List LineValue → List ℕ
drawn_text lines =
    svg_head (columns_of lines) (length lines) ++ (columns_text (columns_of lines) (height_of (length lines)) ++ (numbered arrows_text 0 lines ++ numbered line_text 0 lines))

-- the picture of lines, behind which so many known accesses have no row
abbrev pub drawing : List LineValue → ℕ → List ℕ
drawing lines more = drawn_text lines ++ (none_text (length lines) ++ (more_text (length lines) more ++ codes "</svg>\n"))

-- the picture where no piece came
abbrev pub no_pieces : List ℕ
no_pieces = codes "<svg xmlns=\"http://www.w3.org/2000/svg\" font-family=\"monospace\" font-size=\"12\" width=\"120\" height=\"40\">\n<rect width=\"100%\" height=\"100%\" fill=\"white\"/>\n<text x=\"20\" y=\"24\">no pieces</text>\n</svg>\n"
