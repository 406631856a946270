-- The two tables that are built in, row by row.
use Rattle.std.specs.Prelude.{ℕ, ◌+◌, ◌-◌, ◌++◌, List, [], ◌∷◌}
use Rattle.zp_table.specs.declared.rows.Row.{Row}
use Rattle.zp_table.specs.Rows.{row}

-- one row, which leads to itself: each decision is then one bit of the input
abbrev pub flat_rows : List Row
flat_rows = row 0x8000 0 0 0 ∷ []

-- row 0, where every context starts, and rows 1 and 2, which stand below rows 3 and 4
abbrev pub first_rows : List Row
first_rows = row 0x8000 0 84 145 ∷ row 0x8000 0 3 4 ∷ row 0x8000 0 4 3 ∷ []

-- two rows, from this odd number on, which share p and m: 1 is the more probable bit of the first, and 0 of the second.
-- A more probable bit leads two rows up, and a less probable one two rows down
abbrev pub pair_rows : ℕ → ℕ × ℕ → List Row
pair_rows number pair = row pair.0 pair.1 (number + 2) (number - 2) ∷ row pair.0 pair.1 (number + 3) (number - 1) ∷ []

-- of the last two rows a more probable bit leads to the row itself
abbrev pub last_pair_rows : ℕ → ℕ × ℕ → List Row
last_pair_rows number pair = row pair.0 pair.1 number (number - 2) ∷ row pair.0 pair.1 (number + 1) (number - 1) ∷ []

abbrev pub paired_rows : ℕ → List (ℕ × ℕ) → List Row
paired_rows number [] = []
paired_rows number (pair ∷ []) = last_pair_rows number pair
paired_rows number (pair ∷ next ∷ pairs) = pair_rows number pair ++ paired_rows (number + 2) (next ∷ pairs)

-- p and m of rows 3 and 4, 5 and 6, and so on up to 81 and 82
abbrev pub pairs : List (ℕ × ℕ)
pairs =
    (0x6bbd, 0x10a5) ∷ (0x5d45, 0x1f28) ∷ (0x51b9, 0x2bd3) ∷ (0x4813, 0x36e3) ∷ (0x3fd5, 0x408c) ∷ (0x38b1, 0x48fd) ∷ (0x3275, 0x505d) ∷ (0x2cfd, 0x56d0)
    ∷ (0x2825, 0x5c71) ∷ (0x23ab, 0x615b) ∷ (0x1f87, 0x65a5) ∷ (0x1bbb, 0x6962) ∷ (0x1845, 0x6ca2) ∷ (0x1523, 0x6f74) ∷ (0x1253, 0x71e6) ∷ (0x0fcf, 0x7404)
    ∷ (0x0d95, 0x75d6) ∷ (0x0b9d, 0x7768) ∷ (0x09e3, 0x78c2) ∷ (0x0861, 0x79ea) ∷ (0x0711, 0x7ae7) ∷ (0x05f1, 0x7bbe) ∷ (0x04f9, 0x7c75) ∷ (0x0425, 0x7d0f)
    ∷ (0x0371, 0x7d91) ∷ (0x02d9, 0x7dfe) ∷ (0x0259, 0x7e5a) ∷ (0x01ed, 0x7ea6) ∷ (0x0193, 0x7ee6) ∷ (0x0149, 0x7f1a) ∷ (0x010b, 0x7f45) ∷ (0x00d5, 0x7f6b)
    ∷ (0x00a5, 0x7f8d) ∷ (0x007b, 0x7faa) ∷ (0x0057, 0x7fc3) ∷ (0x003b, 0x7fd7) ∷ (0x0023, 0x7fe7) ∷ (0x0013, 0x7ff2) ∷ (0x0007, 0x7ffa) ∷ (0x0001, 0x7fff) ∷ []

-- rows 83 to 250, all of them with an m of 0
abbrev pub entry : ℕ → ℕ → ℕ → Row
entry p up dn = row p 0 up dn

abbrev pub entries : List Row
entries =
    entry 0x5695 9 85 ∷ entry 0x24ee 86 226 ∷ entry 0x8000 5 6 ∷ entry 0x0d30 88 176
    ∷ entry 0x481a 89 143 ∷ entry 0x0481 90 138 ∷ entry 0x3579 91 141 ∷ entry 0x017a 92 112
    ∷ entry 0x24ef 93 135 ∷ entry 0x007b 94 104 ∷ entry 0x1978 95 133 ∷ entry 0x0028 96 100
    ∷ entry 0x10ca 97 129 ∷ entry 0x000d 82 98 ∷ entry 0x0b5d 99 127 ∷ entry 0x0034 76 72
    ∷ entry 0x078a 101 125 ∷ entry 0x00a0 70 102 ∷ entry 0x050f 103 123 ∷ entry 0x0117 66 60
    ∷ entry 0x0358 105 121 ∷ entry 0x01ea 106 110 ∷ entry 0x0234 107 119 ∷ entry 0x0144 66 108
    ∷ entry 0x0173 109 117 ∷ entry 0x0234 60 54 ∷ entry 0x00f5 111 115 ∷ entry 0x0353 56 48
    ∷ entry 0x00a1 69 113 ∷ entry 0x05c5 114 134 ∷ entry 0x011a 65 59 ∷ entry 0x03cf 116 132
    ∷ entry 0x01aa 61 55 ∷ entry 0x0285 118 130 ∷ entry 0x0286 57 51 ∷ entry 0x01ab 120 128
    ∷ entry 0x03d3 53 47 ∷ entry 0x011a 122 126 ∷ entry 0x05c5 49 41 ∷ entry 0x00ba 124 62
    ∷ entry 0x08ad 43 37 ∷ entry 0x007a 72 66 ∷ entry 0x0ccc 39 31 ∷ entry 0x01eb 60 54
    ∷ entry 0x1302 33 25 ∷ entry 0x02e6 56 50 ∷ entry 0x1b81 29 131 ∷ entry 0x045e 52 46
    ∷ entry 0x24ef 23 17 ∷ entry 0x0690 48 40 ∷ entry 0x2865 23 15 ∷ entry 0x09de 42 136
    ∷ entry 0x3987 137 7 ∷ entry 0x0dc8 38 32 ∷ entry 0x2c99 21 139 ∷ entry 0x10ca 140 172
    ∷ entry 0x3b5f 15 9 ∷ entry 0x0b5d 142 170 ∷ entry 0x5695 9 85 ∷ entry 0x078a 144 168
    ∷ entry 0x8000 141 248 ∷ entry 0x050f 146 166 ∷ entry 0x24ee 147 247 ∷ entry 0x0358 148 164
    ∷ entry 0x0d30 149 197 ∷ entry 0x0234 150 162 ∷ entry 0x0481 151 95 ∷ entry 0x0173 152 160
    ∷ entry 0x017a 153 173 ∷ entry 0x00f5 154 158 ∷ entry 0x007b 155 165 ∷ entry 0x00a1 70 156
    ∷ entry 0x0028 157 161 ∷ entry 0x011a 66 60 ∷ entry 0x000d 81 159 ∷ entry 0x01aa 62 56
    ∷ entry 0x0034 75 71 ∷ entry 0x0286 58 52 ∷ entry 0x00a0 69 163 ∷ entry 0x03d3 54 48
    ∷ entry 0x0117 65 59 ∷ entry 0x05c5 50 42 ∷ entry 0x01ea 167 171 ∷ entry 0x08ad 44 38
    ∷ entry 0x0144 65 169 ∷ entry 0x0ccc 40 32 ∷ entry 0x0234 59 53 ∷ entry 0x1302 34 26
    ∷ entry 0x0353 55 47 ∷ entry 0x1b81 30 174 ∷ entry 0x05c5 175 193 ∷ entry 0x24ef 24 18
    ∷ entry 0x03cf 177 191 ∷ entry 0x2b74 178 222 ∷ entry 0x0285 179 189 ∷ entry 0x201d 180 218
    ∷ entry 0x01ab 181 187 ∷ entry 0x1715 182 216 ∷ entry 0x011a 183 185 ∷ entry 0x0fb7 184 214
    ∷ entry 0x00ba 69 61 ∷ entry 0x0a67 186 212 ∷ entry 0x01eb 59 53 ∷ entry 0x06e7 188 210
    ∷ entry 0x02e6 55 49 ∷ entry 0x0496 190 208 ∷ entry 0x045e 51 45 ∷ entry 0x030d 192 206
    ∷ entry 0x0690 47 39 ∷ entry 0x0206 194 204 ∷ entry 0x09de 41 195 ∷ entry 0x0155 196 202
    ∷ entry 0x0dc8 37 31 ∷ entry 0x00e1 198 200 ∷ entry 0x2b74 199 243 ∷ entry 0x0094 72 64
    ∷ entry 0x201d 201 239 ∷ entry 0x0188 62 56 ∷ entry 0x1715 203 237 ∷ entry 0x0252 58 52
    ∷ entry 0x0fb7 205 235 ∷ entry 0x0383 54 48 ∷ entry 0x0a67 207 233 ∷ entry 0x0547 50 44
    ∷ entry 0x06e7 209 231 ∷ entry 0x07e2 46 38 ∷ entry 0x0496 211 229 ∷ entry 0x0bc0 40 34
    ∷ entry 0x030d 213 227 ∷ entry 0x1178 36 28 ∷ entry 0x0206 215 225 ∷ entry 0x19da 30 22
    ∷ entry 0x0155 217 223 ∷ entry 0x24ef 26 16 ∷ entry 0x00e1 219 221 ∷ entry 0x320e 20 220
    ∷ entry 0x0094 71 63 ∷ entry 0x432a 14 8 ∷ entry 0x0188 61 55 ∷ entry 0x447d 14 224
    ∷ entry 0x0252 57 51 ∷ entry 0x5ece 8 2 ∷ entry 0x0383 53 47 ∷ entry 0x8000 228 87
    ∷ entry 0x0547 49 43 ∷ entry 0x481a 230 246 ∷ entry 0x07e2 45 37 ∷ entry 0x3579 232 244
    ∷ entry 0x0bc0 39 33 ∷ entry 0x24ef 234 238 ∷ entry 0x1178 35 27 ∷ entry 0x1978 138 236
    ∷ entry 0x19da 29 21 ∷ entry 0x2865 24 16 ∷ entry 0x24ef 25 15 ∷ entry 0x3987 240 8
    ∷ entry 0x320e 19 241 ∷ entry 0x2c99 22 242 ∷ entry 0x432a 13 7 ∷ entry 0x3b5f 16 10
    ∷ entry 0x447d 13 245 ∷ entry 0x5695 10 2 ∷ entry 0x5ece 7 1 ∷ entry 0x8000 244 83
    ∷ entry 0x8000 249 250 ∷ entry 0x5695 10 2 ∷ entry 0x481a 89 143 ∷ entry 0x481a 230 246 ∷ []

-- all 251 rows, addressed by their numbers
abbrev pub djvu_rows : List Row
djvu_rows = first_rows ++ (paired_rows 3 pairs ++ entries)
