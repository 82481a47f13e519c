-- The texts for one tank and for two, written out.
use Rattle.std.specs.Prelude.{ℕ, List, ◌++◌, codes}

-- the first number of the sequence for one tank is 1103527590, whose factor is 3/10
abbrev pub one_tank : List ℕ
one_tank =
    codes "SYSTEM tanks {\n"
    ++ codes "  INTERFACE {\n"
    ++ codes "    STATE {\n"
    ++ codes "      REAL h1 [0, 100];\n"
    ++ codes "    }\n"
    ++ codes "    INPUT {\n"
    ++ codes "      BOOL v1;\n"
    ++ codes "    }\n"
    ++ codes "  }\n"
    ++ codes "  IMPLEMENTATION {\n"
    ++ codes "    AUX {\n"
    ++ codes "      REAL q1; BOOL f1;\n"
    ++ codes "    }\n"
    ++ codes "    AD {\n"
    ++ codes "      f1 = h1 >= 90;\n"
    ++ codes "    }\n"
    ++ codes "    DA {\n"
    ++ codes "      q1 = { IF v1 THEN 3/10*h1 };\n"
    ++ codes "    }\n"
    ++ codes "    CONTINUOUS {\n"
    ++ codes "      h1 = h1 + 1 - q1;\n"
    ++ codes "    }\n"
    ++ codes "    MUST {\n"
    ++ codes "      ~f1;\n"
    ++ codes "    }\n"
    ++ codes "  }\n"
    ++ codes "}\n"

-- for two tanks the factors are 1/10 and 2/10
abbrev pub two_tanks : List ℕ
two_tanks =
    codes "SYSTEM tanks {\n"
    ++ codes "  INTERFACE {\n"
    ++ codes "    STATE {\n"
    ++ codes "      REAL h1 [0, 100];\n"
    ++ codes "      REAL h2 [0, 100];\n"
    ++ codes "    }\n"
    ++ codes "    INPUT {\n"
    ++ codes "      BOOL v1;\n"
    ++ codes "      BOOL v2;\n"
    ++ codes "    }\n"
    ++ codes "  }\n"
    ++ codes "  IMPLEMENTATION {\n"
    ++ codes "    AUX {\n"
    ++ codes "      REAL q1; BOOL f1;\n"
    ++ codes "      REAL q2; BOOL f2;\n"
    ++ codes "    }\n"
    ++ codes "    AD {\n"
    ++ codes "      f1 = h1 >= 90;\n"
    ++ codes "      f2 = h2 >= 90;\n"
    ++ codes "    }\n"
    ++ codes "    DA {\n"
    ++ codes "      q1 = { IF v1 THEN 1/10*h1 };\n"
    ++ codes "      q2 = { IF v2 THEN 2/10*h2 };\n"
    ++ codes "    }\n"
    ++ codes "    CONTINUOUS {\n"
    ++ codes "      h1 = h1 + 1 - q1;\n"
    ++ codes "      h2 = h2 + q1 - q2;\n"
    ++ codes "    }\n"
    ++ codes "    MUST {\n"
    ++ codes "      ~f1;\n"
    ++ codes "      ~f2;\n"
    ++ codes "    }\n"
    ++ codes "  }\n"
    ++ codes "}\n"

abbrev pub one_request : List ℕ
one_request =
    codes "{\"final\":{\"h1\":\"1\"},\"horizon\":2,\"nodes\":64,\"pick\":\"bound\",\"start\":{\"h1\":\"50\"}}\n"

-- with ten tanks and more the byte order of names isn't the order of their numbers
abbrev pub eleven_request : List ℕ
eleven_request =
    codes "{\"final\":{\"h11\":\"1\"},\"horizon\":2,\"nodes\":64,\"pick\":\"bound\",\"start\":{"
    ++ codes "\"h1\":\"50\",\"h10\":\"50\",\"h11\":\"50\",\"h2\":\"50\",\"h3\":\"50\",\"h4\":\"50\","
    ++ codes "\"h5\":\"50\",\"h6\":\"50\",\"h7\":\"50\",\"h8\":\"50\",\"h9\":\"50\"}}\n"
